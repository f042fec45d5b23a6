use Rattle.std.proofs.Common.{◌≡◌, ℕ, false, ◌≤◌}
use Rattle.circuit_walk.specs.Turns.{AreFedFrom}
use Rattle.circuit_walk.proofs.walk.Walk.turn_before.Given as goal

abbrev pub invariant-loop-walk : goal.invariant-loop-walk
invariant-loop-walk g l =
    record {
      program_is : l.walk.program ≡ l.fn.self.program;
      before : l.walk.place ≤ l.fn.self.place;
      own : AreFedFrom l.fn.self.program.listing.steps l.lowest l.walk.place l.fn.self.place;
      none : l.fn.fed ≡ false → (low : ℕ) → AreFedFrom l.fn.self.program.listing.steps low l.walk.place l.fn.self.place;
    }

abbrev pub decreases-loop-walk : goal.decreases-loop-walk
decreases-loop-walk g l = l.walk.place
