use Rattle.std.proofs.Common.{ℕ, ◌+◌, ◌≤◌, List, length, true}
use Rattle.cursor.specs.Places.{StandsIn, before_of, left_of}
use Rattle.dem_text.specs.private.Folds.{Folded, Follows, IsSound, fold_over}
use Rattle.dem_text.proofs.kept.Kept.go_over.Given as goal

abbrev pub invariant-loop-place : goal.invariant-loop-place
invariant-loop-place g l = record {
  place : StandsIn (λ i. true) l.self l.cursor;
  follows : (named : List ℕ) (f : Folded) → Follows named f l.fn.fold → Follows named (fold_over named f (before_of (λ i. true) l.self l.cursor)) l.fold;
  sound : IsSound l.fold.standing;
  passed : l.fold.standing.passed ≤ l.fn.fold.standing.passed + length (before_of (λ i. true) l.self l.cursor);
}

abbrev pub decreases-loop-place : goal.decreases-loop-place
decreases-loop-place g l = length (left_of (λ i. true) l.self l.cursor)
