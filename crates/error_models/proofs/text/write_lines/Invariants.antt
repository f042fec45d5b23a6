use Rattle.step_model.specs.Pushed.{Pushes}
use Rattle.std.proofs.Common.{◌≤◌, ◌-◌, length, take}
use Rattle.std.specs.List.{flat_map}
use Rattle.error_models.specs.ModelText.{line_text}
use Rattle.error_models.proofs.text.write_lines.Given as goal

abbrev pub invariant-loop-line : goal.invariant-loop-line
invariant-loop-line g l =
    record {
      within : l.line ≤ length l.model.lines;
      pushed : Pushes g.W.Sink.taken g.W.Sink.failures l.fn.sink l.sink l.fn.out l.out (flat_map (line_text l.model.detectors) (take l.line l.model.lines));
    }

abbrev pub decreases-loop-line : goal.decreases-loop-line
decreases-loop-line g l = length l.model.lines - l.line
