use Rattle.std.proofs.Common.{inr}
use Rattle.frames.specs.Shown.{shown_line}
use Rattle.engine.proofs.DrawingLemmas.{too_many}
use Rattle.engine.proofs.drawing.write_shots.Goals as goal

pub returns-then-shots-gt-MOST_SHOTS : goal.returns-then-shots-gt-MOST_SHOTS
returns-then-shots-gt-MOST_SHOTS g c =
    c.refuse.ensures.answered _ (inr (too_many (shown_line c.args.shown) c.args.shots c.args.seed c.args.program.now.listing c.if-shots-gt-MOST_SHOTS.true))
