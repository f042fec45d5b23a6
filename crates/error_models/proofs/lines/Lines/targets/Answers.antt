use Rattle.std.proofs.Common.{◌<◌, length, get_or, ap, sym, ◌∙◌, arith}
use Rattle.error_models.specs.ErrorLines.{no_line}
use Rattle.error_models.proofs.ErrorLineLemmas.{length-lines_of, get_or-lines_of}
use Rattle.error_models.proofs.lines.Lines.targets.Goals as goal

pub get-requires : goal.get-requires
get-requires g c =
    let same = length-lines_of c.self.inside.texts.items c.self.inside.numbers.items c.self.inside.targets c.self.invariant.counted in
    let counted = ap length c.self.view_is in
    omega (arith, same, counted, c.self.invariant.counted, c.requires)

pub returns : goal.returns
returns g c =
    let numbers = c.self.inside.numbers.items in
    let same = length-lines_of c.self.inside.texts.items numbers c.self.inside.targets c.self.invariant.counted in
    let counted = ap length c.self.view_is in
    let within : c.args.line < length numbers = omega (arith, same, counted, c.requires) in
    c.get.ensures.value
    ∙ (sym (ap (λ l. l.targets) (get_or-lines_of c.self.inside.texts.items numbers c.self.inside.targets c.args.line 0 c.self.invariant.counted within))
    ∙ ap (λ ls. (get_or ls c.args.line no_line).targets) c.self.view_is)
