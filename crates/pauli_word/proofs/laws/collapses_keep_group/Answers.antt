use Rattle.pauli_word.proofs.Groups.{IsGroup-collapsed}
use Rattle.pauli_word.proofs.laws.collapses_keep_group.Goals as goal

pub returns : goal.returns
returns c = IsGroup-collapsed
