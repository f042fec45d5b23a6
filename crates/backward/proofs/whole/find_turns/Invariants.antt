use Rattle.std.proofs.Common.{◌≡◌, ◌≤◌, reverse}
use Rattle.error_models.specs.HeldText.{HoldsLines}
use Rattle.backward.specs.private.Passes.{IsPassed}
use Rattle.backward.specs.private.Segments.{AreTurnsAt, turns_end}
use Rattle.backward.specs.private.Stretches.{Gives, lines_between}
use Rattle.backward.proofs.whole.find_turns.Given as goal

abbrev pub invariant-loop-at : goal.invariant-loop-at
invariant-loop-at g l =
    record {
      program_is : l.at.walk.program ≡ l.fn.at.walk.program;
      store : l.lines.program.now ≡ l.fn.lines.program.now;
      passed : IsPassed l.program.listing l.at.walk.place (g.T.Tracker.tracked l.at.tracker) l.found;
      settled : l.found.settled ≡ l.fn.found.settled;
      turns : AreTurnsAt l.program l.at.walk.place l.turns;
      below : turns_end l.at.walk.place l.turns ≤ l.fn.at.walk.place;
      lines : Gives (HoldsLines l.fn.lines.text) (HoldsLines l.lines.text) (reverse (lines_between l.program.listing (turns_end l.at.walk.place l.turns) l.fn.at.walk.place));
    }

abbrev pub decreases-loop-at : goal.decreases-loop-at
decreases-loop-at g l = l.at.walk.place
