use Rattle.pauli_word.proofs.WordLaws.{letters_product_self, letters_power_self}
use Rattle.pauli_word.proofs.laws.words_are_their_own_inverses.Goals as goal

pub returns : goal.returns
returns c = record { letters = letters_product_self; power = letters_power_self }
