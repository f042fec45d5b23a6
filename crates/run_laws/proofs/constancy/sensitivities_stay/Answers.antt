use Rattle.run_laws.proofs.ConstancyRuns.{sensitivity_stays}
use Rattle.run_laws.proofs.constancy.sensitivities_stay.Goals as goal

pub returns : goal.returns
returns c = sensitivity_stays
