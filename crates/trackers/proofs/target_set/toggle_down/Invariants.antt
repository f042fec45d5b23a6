use Rattle.std.proofs.Common.{◌≡◌, ◌≤◌, length, drop}
use Rattle.bit_rows.specs.Rows.{xor_rows}
use Rattle.step_model.specs.TargetSets.{row_of_set}
use Rattle.trackers.proofs.target_set.toggle_down.Given as goal

-- the targets from this one on are toggled
abbrev pub invariant-loop-left : goal.invariant-loop-left
invariant-loop-left g l =
    record {
      long : length (g.S.TargetSet.bits l.set) ≡ length (g.S.TargetSet.bits l.fn.set);
      within : l.left ≤ length l.targets;
      done : g.S.TargetSet.bits l.set ≡ xor_rows (g.S.TargetSet.bits l.fn.set) (row_of_set (length (g.S.TargetSet.bits l.fn.set)) (drop l.left l.targets));
    }

abbrev pub decreases-loop-left : goal.decreases-loop-left
decreases-loop-left g l = l.left
