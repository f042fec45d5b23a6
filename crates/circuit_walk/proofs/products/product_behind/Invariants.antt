use Rattle.std.proofs.Common.{◌≡◌, ◌-◌, ◌<◌, ◌≤◌, ℕ, length}
use Rattle.circuit_walk.proofs.ProductLoops.{IsBehindFactor}
use Rattle.circuit_walk.proofs.ProductPlaces.{place_of}
use Rattle.circuit_walk.proofs.products.product_behind.Given as goal

abbrev pub invariant-loop-end : goal.invariant-loop-end
invariant-loop-end l =
    record {
      later : l.at < l.end;
      within : l.end ≤ length l.targets;
      product : (k : ℕ) → l.at ≡ place_of l.targets k → IsBehindFactor l.targets k l.end;
    }

abbrev pub decreases-loop-end : goal.decreases-loop-end
decreases-loop-end l = length l.targets - l.end
