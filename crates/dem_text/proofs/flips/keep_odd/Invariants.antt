use Rattle.std.proofs.Common.{◌≡◌, ℕ, ◌<◌, take}
use Rattle.std.specs.Prelude.{All}
use Rattle.dem_text.specs.private.Numbered.{odd_below}
use Rattle.dem_text.proofs.flips.keep_odd.Given as goal

abbrev pub invariant-loop-number : goal.invariant-loop-number
invariant-loop-number g l = (n : ℕ) → All (λ m. m < n) (take l.number-index l.numbers) → l.kept.items ≡ odd_below n (take l.number-index l.numbers)
