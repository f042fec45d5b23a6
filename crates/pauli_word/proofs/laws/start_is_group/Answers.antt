use Rattle.pauli_word.proofs.Groups.{IsGroup-start}
use Rattle.pauli_word.proofs.laws.start_is_group.Goals as goal

pub returns : goal.returns
returns c = IsGroup-start
