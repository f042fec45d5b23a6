use Rattle.std.proofs.Common.{refl}
use Rattle.pauli_word.proofs.PowerLaws.{power_product_assoc, power_product_comm, fourth_power}
use Rattle.pauli_word.proofs.laws.powers_form_a_group.Goals as goal

pub returns : goal.returns
returns c = record { associative = power_product_assoc; commutative = power_product_comm; identity = λ p. refl; fourth_power = fourth_power }
