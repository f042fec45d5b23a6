use Rattle.std.proofs.Common.{◌≡◌, ◌≤◌, List, reverse}
use Rattle.step_model.specs.ErrorModels.{ErrorLine}
use Rattle.backward.specs.private.Passes.{IsPassed, Stays}
use Rattle.backward.specs.private.Stretches.{Gives, lines_between}
use Rattle.backward.proofs.turns.find_turn.Given as goal

abbrev pub invariant-loop-lines : goal.invariant-loop-lines
invariant-loop-lines g l =
    record {
      program_is : l.at.walk.program ≡ l.fn.at.walk.program;
      above : l.to ≤ l.at.walk.place;
      below : l.at.walk.place ≤ l.fn.at.walk.place;
      passed : IsPassed l.program.listing l.at.walk.place (g.T.Tracker.tracked l.at.tracker) l.found;
      stays : Stays l.fn.found l.found;
      lines : Gives (λ (given : List ErrorLine). l.fn.lines.lines ≡ given) (λ (given : List ErrorLine). l.lines.lines ≡ given) (reverse (lines_between l.program.listing l.at.walk.place l.fn.at.walk.place));
      store : l.lines.program ≡ l.fn.lines.program;
    }

abbrev pub decreases-loop-lines : goal.decreases-loop-lines
decreases-loop-lines g l = l.at.walk.place
