use Rattle.run_laws.proofs.UniqueModels.{one_model}
use Rattle.run_laws.proofs.constancy.at_most_one_model_is_exact.Goals as goal

pub returns : goal.returns
returns c = one_model
