use Rattle.gate_table.proofs.Inverses.{undone_by_inverse}
use Rattle.gate_table.proofs.laws.inverses_undo.Goals as goal

pub returns : goal.returns
returns c = undone_by_inverse
