use Rattle.run_laws.proofs.ConstancyRuns.{parity-brought, parity_is_constant}
use Rattle.run_laws.proofs.constancy.parity_is_constant.Goals as goal

pub returns : goal.returns
returns c = record { constant = parity_is_constant; brought = parity-brought }
