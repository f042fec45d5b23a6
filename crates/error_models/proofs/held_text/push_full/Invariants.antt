use Rattle.std.proofs.Common.{◌≤◌, length, drop}
use Rattle.error_models.specs.HeldText.{texts_of}
use Rattle.step_model.specs.Pushed.{Pushes}
use Rattle.error_models.proofs.held_text.push_full.Given as goal

-- the blocks from this one on are pushed
abbrev pub invariant-loop-left : goal.invariant-loop-left
invariant-loop-left g l =
    record {
      within : l.left ≤ length l.full;
      pushed : Pushes g.W.Sink.taken g.W.Sink.failures l.fn.sink l.sink l.fn.out l.out (texts_of (drop l.left l.full));
    }

abbrev pub decreases-loop-left : goal.decreases-loop-left
decreases-loop-left g l = l.left
