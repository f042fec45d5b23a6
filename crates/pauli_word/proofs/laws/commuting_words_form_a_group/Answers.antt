use Rattle.std.proofs.Common.{refl}
use Rattle.pauli_word.proofs.SignedLaws.{product_assoc, product_comm, product_self, product_of_identity}
use Rattle.pauli_word.proofs.laws.commuting_words_form_a_group.Goals as goal

pub returns : goal.returns
returns c = record { associative = product_assoc; commutative = product_comm; identity = λ p. product_of_identity _ p refl; inverse = product_self }
