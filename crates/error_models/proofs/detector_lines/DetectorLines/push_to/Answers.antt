use Rattle.std.proofs.Common.{ap, arith}
use Rattle.std.proofs.lemmas.List.{drop_all}
use Rattle.error_models.proofs.detector_lines.DetectorLines.push_to.Goals as goal

pub returns-clause-left : goal.returns-clause-left
returns-clause-left g c = ap (λ l. record { text = l; room = 10 }) (drop_all 3840 c.self.inside.buffer (omega (arith, c.self.told)))
