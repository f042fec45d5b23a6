use Rattle.std.proofs.Common.{◌++◌, ap}
use Rattle.error_models.specs.HeldText.{texts_of}
use Rattle.error_models.proofs.ShortLineLemmas.{Pushes-one}
use Rattle.error_models.proofs.held_text.push_blocks.Goals as goal

pub returns : goal.returns
returns g c = Pushes-one c.push.ensures c.push_full.ensures (ap (λ s. s ++ texts_of c.args.full.now) c.text.ensures)
