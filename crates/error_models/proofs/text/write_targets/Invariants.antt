use Rattle.step_model.specs.Pushed.{Pushes}
use Rattle.std.proofs.Common.{◌≤◌, ◌-◌, length, take}
use Rattle.error_models.specs.ModelText.{targets_text}
use Rattle.error_models.proofs.text.write_targets.Given as goal

abbrev pub invariant-loop-done : goal.invariant-loop-done
invariant-loop-done g l =
    record {
      within : l.done ≤ length l.targets;
      pushed : Pushes g.W.Sink.taken g.W.Sink.failures l.fn.sink l.sink l.fn.out l.out (targets_text l.detectors (take l.done l.targets));
    }

abbrev pub decreases-loop-done : goal.decreases-loop-done
decreases-loop-done g l = length l.targets - l.done
