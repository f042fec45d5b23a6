use Rattle.std.proofs.Common.{ℕ, ◌+◌, ◌-◌, ◌<◌, ◌≤◌}
use Rattle.std.specs.Prelude.{IfSome, slice_get}
use Rattle.forward_sim.proofs.quiet.quiet_count.Given as goal

abbrev pub invariant-loop-passed : goal.invariant-loop-passed
invariant-loop-passed g l =
    record {
      few : l.passed ≤ l.most;
      none : (f : ℕ) → l.first ≤ f → f < l.first + l.passed → IfSome (slice_get l.faults f) g.H.Happening.nowhere;
    }

abbrev pub decreases-loop-passed : goal.decreases-loop-passed
decreases-loop-passed g l = l.most - l.passed
