use Rattle.std.proofs.Common.{◌≡◌, ◌≢◌, ◌+◌, ◌-◌, ◌%◌, length}
use Rattle.step_model.specs.Pushed.{Pushes}
use Rattle.frames.specs.private.LaneLines.{lane_lines}
use Rattle.frames.specs.private.Octets.{HoldLanes}
use Rattle.frames.proofs.lines.push_each.Given as goal

-- the lines of the first shots were pushed
abbrev pub invariant-loop-shot : goal.invariant-loop-shot
invariant-loop-shot g l =
    record {
      lines : Pushes g.W.Sink.taken g.W.Sink.failures l.fn.sink l.sink l.fn.out l.out (lane_lines l.words l.shot);
      octets : length l.octets ≡ length l.words;
      line : length l.line ≡ length l.words + 1;
      held : l.shot % 8 ≢ 0 → HoldLanes (l.shot - l.shot % 8) l.words l.octets;
    }
