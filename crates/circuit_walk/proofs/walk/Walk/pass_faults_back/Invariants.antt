use Rattle.std.proofs.Common.{◌≡◌, ℕ, true, ◌<◌, ◌≤◌}
use Rattle.std.specs.Prelude.{slice_get}
use Rattle.circuit_walk.specs.Walks.{is_fault}
use Rattle.circuit_walk.proofs.walk.Walk.pass_faults_back.Given as goal

abbrev pub invariant-loop-self : goal.invariant-loop-self
invariant-loop-self g l =
    record {
      program_is : l.self.program ≡ l.fn.self.program;
      above : l.from ≤ l.self.place;
      below : l.self.place ≤ l.fn.self.place;
      each : (k : ℕ) → l.self.place ≤ k → k < l.fn.self.place → is_fault (slice_get l.fn.self.program.listing.steps k) ≡ true;
    }

abbrev pub decreases-loop-self : goal.decreases-loop-self
decreases-loop-self g l = l.self.place
