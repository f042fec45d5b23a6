use Rattle.std.proofs.Common.{◌≡◌, false, length}
use Rattle.std.specs.Prelude.{reverse}
use Rattle.backward.specs.private.Passes.{IsPassed}
use Rattle.backward.specs.private.Stretches.{lines_between}
use Rattle.backward.proofs.analysis.go_back.Given as goal

-- what is kept is what is found from the place on
abbrev pub invariant-loop-at : goal.invariant-loop-at
invariant-loop-at g l =
    record {
      program_is : l.at.walk.program ≡ l.program;
      store : l.lines.program.now ≡ l.program;
      first : l.found.settled ≡ false;
      passed : IsPassed l.program.listing l.at.walk.place (g.T.Tracker.tracked l.at.tracker) l.found;
      lines : l.lines.model.lines ≡ reverse (lines_between l.program.listing l.at.walk.place (length l.program.listing.steps));
    }

abbrev pub decreases-loop-at : goal.decreases-loop-at
decreases-loop-at g l = l.at.walk.place
