use Rattle.std.proofs.Common.{◌≡◌, ℕ, ◌<◌, get_or, length}
use Rattle.std.specs.Int.{w64, rotate_left}
use Rattle.forward_sim.proofs.Rotations.{highest}
use Rattle.forward_sim.proofs.sieve.Sieve.new.Given as goal

-- the first rotations have their masks
abbrev pub invariant-loop-r : goal.invariant-loop-r
invariant-loop-r l =
    record {
      size : length l.masks ≡ 64;
      masks : (k : ℕ) → k < l.r → get_or l.masks k 0 ≡ rotate_left w64 highest k;
    }
