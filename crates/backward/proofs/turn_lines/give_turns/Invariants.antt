use Rattle.std.proofs.Common.{◌≡◌}
use Rattle.backward.specs.private.TurnLines.{GivesTurns}
use Rattle.backward.proofs.turn_lines.give_turns.Given as goal

-- the lines of the turns behind this one were given
abbrev pub invariant-loop-turns : goal.invariant-loop-turns
invariant-loop-turns g l =
    record {
      program : g.L.LineStore.program l.lines ≡ g.L.LineStore.program l.fn.lines;
      gives : GivesTurns (g.L.LineStore.holds l.fn.lines) (g.L.LineStore.holds l.lines) l.shift.staying l.shift.by l.first l.turns l.turn.lines;
    }
