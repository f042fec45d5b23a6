use Rattle.std.proofs.Common.{◌≡◌, ◌<◌, ℕ, None, get_or}
use Rattle.backward.specs.Places.{place_from}
use Rattle.backward.proofs.places.lowest_random.Given as goal

abbrev pub invariant-loop-d : goal.invariant-loop-d
invariant-loop-d l = (k : ℕ) → k < l.d → place_from (get_or l.latest k None) (get_or l.lowest k None) ≡ None
