use Rattle.std.proofs.Common.{◌<◌, length, sym, subst, ◌∙◌, arith}
use Rattle.tableau.specs.private.Waiting.{all_turned, CanTurn}
use Rattle.tableau.proofs.PairWords.{pair_read}
use Rattle.tableau.proofs.TwistRows.{current, mapped_more}
use Rattle.tableau.proofs.waiting_turns.turn_rows_by_all.Goals as goal

pub turn_pair_by_all-requires : goal.turn_pair_by_all-requires
turn_pair_by_all-requires g c =
    let rows = c.args.rows.now.items in
    let within : c.loop-row.row < length c.args.rows.now.items = omega (arith, c.loop-row-test.true, c.len-row-end.ensures) in
    subst (CanTurn c.loop-row.row c.args.turns.now)
    (sym
    (pair_read (length rows) rows c.loop-row.row c.index_mut.result.now within
    (c.index_mut.ensures.value ∙ current _ rows c.loop-row.rows.items c.loop-row.row c.index_mut.result.now within c.loop-row.invariant)))
    (c.requires c.loop-row.row within)

pub loop-row-preserved : goal.loop-row-preserved
loop-row-preserved g c =
    let within : c.loop-row.row < length c.args.rows.now.items = omega (arith, c.loop-row-test.true, c.len-row-end.ensures) in
    mapped_more (all_turned c.args.turns.now) c.args.rows.now.items c.loop-row.rows.items c.loop-row.row c.index_mut.result.now c.turn_pair_by_all.new.pair within
    c.loop-row.invariant c.index_mut.ensures.value c.turn_pair_by_all.ensures
