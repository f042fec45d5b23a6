use Rattle.pauli_word.proofs.WordLaws.{letters_product_of_none, letters_power_of_none}
use Rattle.pauli_word.proofs.laws.identity_is_neutral.Goals as goal

pub returns : goal.returns
returns c = record { letters = letters_product_of_none; power = λ p. letters_power_of_none _ p }
