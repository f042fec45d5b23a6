use Rattle.std.proofs.Common.{◌≡◌, subst, sym}
use Rattle.trackers.specs.Tracked.{Tracked}
use Rattle.step_model.specs.Listing.{Listing}
use Rattle.backward.specs.declared.found.Found.{Found}
use Rattle.backward.specs.declared.point.Point.{Point}
use Rattle.backward.specs.private.Passes.{IsPassed}
use Rattle.backward.proofs.points.back_over.Goals as goal
use Rattle.backward.proofs.points.back_over.Goals.{then-place-ask+in_ok-turns+else-place+in-Some-1, then-place-ask+in_ok-turns+else-place+in-None-1, else-place-ask}

-- what was kept at a place, where both have other names
passed_at : {A T : Type 0} (tracked : T → Tracked) (program : Listing) (at same : Point A T) (found also : Found A) → at ≡ same → found ≡ also → IsPassed program same.walk.place (tracked same.tracker) also → IsPassed program at.walk.place (tracked at.tracker) found
passed_at tracked program at same found also e f h =
    subst (λ p. IsPassed program p.walk.place (tracked p.tracker) found) (sym e) (subst (IsPassed program same.walk.place (tracked same.tracker)) (sym f) h)

pub back_without_lines-requires-clause-passed : goal.back_without_lines-requires-clause-passed
back_without_lines-requires-clause-passed g c =
    elim c.if-place-ask.branch [
      | then-place-ask+in_ok-turns+else-place+in-Some-1 w ↦ passed_at g.T.Tracker.tracked c.args.program.now.listing _ _ _ _ w.at-is w.found-is w.in_ok-turns.ensures.passed.passed
      | then-place-ask+in_ok-turns+else-place+in-None-1 w ↦ passed_at g.T.Tracker.tracked c.args.program.now.listing _ _ _ _ w.at-is w.found-is w.in_ok-turns.ensures.passed.passed
      | else-place-ask w ↦ passed_at g.T.Tracker.tracked c.args.program.now.listing _ _ _ _ w.at-is w.found-is c.requires.passed
    ]
