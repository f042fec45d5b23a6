use Rattle.std.proofs.Common.{◌≡◌, ◌<◌, ℕ, suc, length}
use Rattle.circuit_walk.specs.private.InstructionSteps.{product_words}
use Rattle.circuit_walk.proofs.ProductLoops.{IsAtFactor}
use Rattle.circuit_walk.proofs.ProductPlaces.{place_of}
use Rattle.circuit_walk.proofs.products.product_before.Given as goal

abbrev pub invariant-loop-start : goal.invariant-loop-start
invariant-loop-start l =
    record {
      earlier : l.start < l.at;
      product : (k : ℕ) → k < length (product_words l.targets) → l.at ≡ place_of l.targets (suc k) → IsAtFactor l.targets k l.start;
    }

abbrev pub decreases-loop-start : goal.decreases-loop-start
decreases-loop-start l = l.start
