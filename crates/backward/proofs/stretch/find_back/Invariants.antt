use Rattle.std.proofs.Common.{◌≡◌, ◌≤◌, ◌++◌, List}
use Rattle.std.specs.Prelude.{reverse}
use Rattle.step_model.specs.ErrorModels.{ErrorLine}
use Rattle.error_models.specs.HeldText.{HoldsLines}
use Rattle.backward.specs.private.Passes.{IsPassed, Stays}
use Rattle.backward.specs.private.Stretches.{lines_between}
use Rattle.backward.proofs.stretch.find_back.Given as goal

abbrev pub invariant-loop-ask : goal.invariant-loop-ask
invariant-loop-ask g l =
    record {
      program_is : l.at.walk.program ≡ l.fn.at.walk.program;
      store : l.lines.program.now ≡ l.fn.lines.program.now;
      above : l.from ≤ l.at.walk.place;
      asks : l.from ≤ l.ask;
      below : l.at.walk.place ≤ l.fn.at.walk.place;
      passed : IsPassed l.program.listing l.at.walk.place (g.T.Tracker.tracked l.at.tracker) l.found;
      stays : Stays l.fn.found l.found;
      lines : (given : List ErrorLine) → HoldsLines l.fn.lines.text given → HoldsLines l.lines.text (given ++ reverse (lines_between l.program.listing l.at.walk.place l.fn.at.walk.place));
    }

abbrev pub decreases-loop-ask : goal.decreases-loop-ask
decreases-loop-ask g l = l.at.walk.place
