use Rattle.pauli_word.proofs.WordLaws.{letters_product_comm, letters_power_swap}
use Rattle.pauli_word.proofs.laws.order_changes_the_sign.Goals as goal

pub returns : goal.returns
returns c = record { letters = letters_product_comm; power = letters_power_swap }
