use Rattle.pauli_word.proofs.WordLaws.{anticommute_comm, anticommute_self, anticommute_of_none, anticommute-product}
use Rattle.pauli_word.proofs.laws.anticommuting_adds_up.Goals as goal

pub returns : goal.returns
returns c = record { symmetric = anticommute_comm; itself = anticommute_self; identity = anticommute_of_none; additive = anticommute-product }
