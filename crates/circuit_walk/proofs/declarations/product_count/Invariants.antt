use Rattle.std.proofs.Common.{◌≡◌, ◌-◌, ◌≤◌, length}
use Rattle.circuit_walk.specs.private.InstructionSteps.{product_words}
use Rattle.circuit_walk.proofs.ProductPlaces.{place_of}
use Rattle.circuit_walk.proofs.declarations.product_count.Given as goal

abbrev pub invariant-loop-at : goal.invariant-loop-at
invariant-loop-at l =
    record {
      place : l.at ≡ place_of l.targets l.count;
      slow : l.count ≤ l.at;
      few : l.count ≤ length (product_words l.targets);
    }

abbrev pub decreases-loop-at : goal.decreases-loop-at
decreases-loop-at l = length l.targets - l.at
