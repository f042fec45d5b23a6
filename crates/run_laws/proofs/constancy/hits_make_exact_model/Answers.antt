use Rattle.run_laws.proofs.Exactness.{model_fits, model_is_exact}
use Rattle.run_laws.proofs.constancy.hits_make_exact_model.Goals as goal

pub returns : goal.returns
returns c = record { fits = model_fits; exact = model_is_exact }
