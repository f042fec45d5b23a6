use Rattle.gate_table.proofs.Arity.{arity_cases}
use Rattle.gate_table.proofs.laws.arity_is_one_or_two.Goals as goal

pub returns : goal.returns
returns c = arity_cases
