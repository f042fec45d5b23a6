use Rattle.std.proofs.Common.{◌≡◌, ◌-◌, ◌*◌, ◌≤◌, take, drop}
use Rattle.std.specs.List.{flat_map}
use Rattle.error_models.specs.ModelText.{line_text}
use Rattle.error_models.proofs.line_runs.lines_before.Given as goal

-- the lines from this one on are written
abbrev pub invariant-loop-left : goal.invariant-loop-left
invariant-loop-left g l =
    record {
      from : l.line ≤ l.left;
      within : l.left ≤ l.next;
      room : (l.left - l.line) * 240 ≤ l.at;
      end : l.at ≤ 4096;
      written : drop l.at l.buffer ≡ flat_map (line_text l.model.detectors) (take (l.next - l.left) (drop l.left l.model.lines));
    }

abbrev pub decreases-loop-left : goal.decreases-loop-left
decreases-loop-left g l = l.left - l.line
