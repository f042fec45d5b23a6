use Rattle.std.proofs.Common.{◌∙◌}
use Rattle.gate_table.proofs.Search.{named_in_rows-named_in}
use Rattle.gate_table.proofs.gate.Gate.named.Goals as goal

-- the static table is the one of the definition
pub returns : goal.returns
returns c = c.look_up.ensures ∙ named_in_rows-named_in _ c.args.name.now
