use Rattle.std.proofs.Common.{◌≡◌, take}
use Rattle.backward.specs.private.Stretches.{Gives}
use Rattle.backward.specs.private.TurnLines.{kept_lines, moved_error_lines}
use Rattle.backward.proofs.turn_lines.give_turn.Given as goal

-- the lines before this one were given
abbrev pub invariant-loop-i : goal.invariant-loop-i
invariant-loop-i g l =
    let turn = l.turn-inside in
    record {
      program : g.L.LineStore.program l.lines ≡ g.L.LineStore.program l.fn.lines;
      gives : Gives (g.L.LineStore.holds l.fn.lines) (g.L.LineStore.holds l.lines)
          (moved_error_lines l.staying l.by (kept_lines turn.program.now (take l.i turn.chances.items) (take l.i turn.targets)));
    }
