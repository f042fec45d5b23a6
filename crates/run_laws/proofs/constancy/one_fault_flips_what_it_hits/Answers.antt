use Rattle.run_laws.proofs.Duality.{one_fault}
use Rattle.run_laws.proofs.constancy.one_fault_flips_what_it_hits.Goals as goal

pub returns : goal.returns
returns c = one_fault
