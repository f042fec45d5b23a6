use Rattle.std.proofs.Common.{◌≡◌, ◌+◌, ◌-◌, ◌<◌, get_or, ◌∙◌, arith}
use Rattle.error_models.proofs.NameLemmas.{next_name}
use Rattle.error_models.proofs.names.Name.next.Goals as goal

pub returns : goal.returns
returns c =
    let target = c.args.target in
    let before : target - 1 + 1 ≡ target = omega (arith, c.requires.some) in
    let low : get_or c.self.inside.bytes 7 0 < 57 = omega (arith, c.if-bytes-ge57.false) in
    next_name c.args.detectors (target - 1) target (8 - c.self.inside.len) c.self.inside.bytes before c.if-target-detectors.false c.requires.few_detectors c.requires.few c.self.told low (c.self.view_is ∙ c.requires.before)
