use Rattle.std.proofs.Common.{◌≡◌, ◌≤◌, ◌++◌, [], List, ℕ}
use Rattle.step_model.specs.Pushed.{Pushes}
use Rattle.backward.specs.private.TurnLines.{turns_text}
use Rattle.backward.proofs.turn_lines.push_turns.Given as goal

-- what was pushed is the text, up to that of the turns that are left
abbrev pub invariant-loop-left : goal.invariant-loop-left
invariant-loop-left g l =
    record {
      store : l.lines.program.now ≡ l.fn.lines.program.now;
      none : l.lines.text.text ≡ [];
      below : l.left ≤ l.turns;
      front : List ℕ;
      whole : front ++ turns_text l.turn l.shift.staying l.shift.by l.left ≡ turns_text l.turn l.shift.staying l.shift.by l.turns;
      pushed : Pushes (g.W.Sink.taken) (g.W.Sink.failures) l.fn.sink l.sink l.fn.out l.out front;
    }

abbrev pub decreases-loop-left : goal.decreases-loop-left
decreases-loop-left g l = l.left
