use Rattle.pauli_word.proofs.WordLaws.{letters_product_assoc, letters_power_cocycle}
use Rattle.pauli_word.proofs.laws.products_associate.Goals as goal

pub returns : goal.returns
returns c = record { letters = letters_product_assoc; powers = letters_power_cocycle }
