use Rattle.std.proofs.Common.{◌∙◌}
use Rattle.backward.proofs.TurnLineLemmas.{one_turn_more}
use Rattle.backward.proofs.turn_lines.give_turns.Goals as goal

pub loop-turns-preserved : goal.loop-turns-preserved
loop-turns-preserved g c =
    let holds = g.L.LineStore.holds in
    let turn = c.args.turn.now in
    record {
      program = c.give_turn.ensures.program ∙ c.loop-turns.invariant.program;
      gives = one_turn_more (holds c.args.lines.now) (holds c.loop-turns.lines) (holds c.give_turn.new.lines) c.args.shift.now.staying c.args.shift.now.by c.args.first c.loop-turns.turns turn.lines c.loop-turns.invariant.gives c.in_ok-give_turn.ensures.holds;
    }
