-- The bounds of faults one after another, kept as runs of equal bounds, or each by the greatest word below it.
-- (This project's own.)
use Rattle.std.specs.Prelude.{◌≡◌, ℕ, ◌+◌, ◌^◌, ◌<◌, nat_le, nat_lt, List, map, replicate}
use Rattle.std.specs.List.{flat_map}
use Rattle.forward_sim.specs.declared.runs.BoundRun.{BoundRun}

-- the bounds of the faults of one run, and of several runs one after another
abbrev pub bounds_of_run : BoundRun → List ℕ
bounds_of_run run = replicate run.count run.bound

abbrev pub bounds_in : List BoundRun → List ℕ
bounds_in runs = flat_map bounds_of_run runs

-- the bounds below which these words are the greatest numbers
abbrev pub bounds_above : List ℕ → List ℕ
bounds_above words = map (λ word. word + 1) words

-- the words up to this one are those below a bound
abbrev pub IsGreatestBelow : ℕ → ℕ → Type 0
IsGreatestBelow bound most = (word : ℕ) → word < 2 ^ 64 → nat_le word most ≡ nat_lt word bound
