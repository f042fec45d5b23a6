use Rattle.std.proofs.Common.{◌≡◌, length, take}
use Rattle.forward_sim.specs.private.AllLanes.{DrawnUpTo, fault_hits}
use Rattle.forward_sim.specs.private.BoundRuns.{bounds_in}
use Rattle.forward_sim.proofs.RunLemmas.{bounds_before}
use Rattle.forward_sim.proofs.fault_draws.draw_runs.Given as goal

-- the faults of the first runs are drawn
abbrev pub invariant-loop-r : goal.invariant-loop-r
invariant-loop-r l =
    record {
      start : l.start ≡ bounds_before l.runs l.r;
      drawn : DrawnUpTo l.start (length l.fn.faults) (fault_hits (bounds_in (take l.r l.runs))) l.fn.generators l.faults l.generators;
    }
