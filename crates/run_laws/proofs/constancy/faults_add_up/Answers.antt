use Rattle.run_laws.proofs.Duality.{faults_add_up}
use Rattle.run_laws.proofs.constancy.faults_add_up.Goals as goal

pub returns : goal.returns
returns c = faults_add_up
