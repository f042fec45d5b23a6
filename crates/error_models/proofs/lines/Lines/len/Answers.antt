use Rattle.std.proofs.Common.{length, ap, arith}
use Rattle.error_models.proofs.ErrorLineLemmas.{length-lines_of}
use Rattle.error_models.proofs.lines.Lines.len.Goals as goal

pub returns-clause-value : goal.returns-clause-value
returns-clause-value g c =
    let same = length-lines_of c.self.inside.texts.items c.self.inside.numbers.items c.self.inside.targets c.self.invariant.counted in
    let counted = ap length c.self.view_is in
    omega (arith, same, counted, c.self.inside.numbers.ok.0, c.len.ensures)

pub returns-clause-few : goal.returns-clause-few
returns-clause-few g c = omega (arith, c.self.inside.numbers.ok.1, c.self.inside.numbers.small, c.len.ensures)
