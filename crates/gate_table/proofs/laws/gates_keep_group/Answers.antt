use Rattle.gate_table.proofs.GateGroups.{IsGroup-gate, IsGroup-gate_two}
use Rattle.gate_table.proofs.laws.gates_keep_group.Goals as goal

pub returns : goal.returns
returns c = record { one = IsGroup-gate; two = IsGroup-gate_two }
