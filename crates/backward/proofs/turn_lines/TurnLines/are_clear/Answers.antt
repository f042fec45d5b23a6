use Rattle.std.proofs.Common.{ap, subst}
use Rattle.backward.specs.private.TurnLines.{AreClear, KeptLines}
use Rattle.backward.proofs.TurnLineLemmas.{clear-kept}
use Rattle.backward.proofs.turn_lines.TurnLines.are_clear.Goals as goal

pub returns : goal.returns
returns g c is =
    let turn = c.self.inside in
    subst (AreClear c.args.shift.now) (ap (λ (k : KeptLines). k.lines) c.self.view_is) (clear-kept c.args.shift.now turn.program.now turn.chances.items turn.targets (c.are_clear.ensures is))
