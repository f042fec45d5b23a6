use Rattle.std.proofs.Common.{◌<◌, length, refl, sym, subst, ◌∙◌, arith}
use Rattle.tableau.specs.private.CliffordMaps.{turned}
use Rattle.tableau.specs.private.Encoding.{HasLength}
use Rattle.tableau.proofs.RowClashes.{turns_read}
use Rattle.tableau.proofs.TwistRows.{current, mapped_more}
use Rattle.tableau.proofs.measure.turn_rows_by_letter.Goals as goal

pub turn_pair_by-requires-clause-size : goal.turn_pair_by-requires-clause-size
turn_pair_by-requires-clause-size g c =
    let within : c.loop-row.row < length c.args.rows.now.items = omega (arith, c.loop-row-test.true, c.len-row-end.ensures) in
    subst (HasLength (length c.args.turn.now.letters))
    (sym (c.index_mut.ensures.value ∙ current _ c.args.rows.now.items c.loop-row.rows.items c.loop-row.row c.index_mut.result.now within c.loop-row.invariant))
    (c.requires.sizes c.loop-row.row c.index_mut.result.now within)

pub turn_pair_by-requires-clause-clashes : goal.turn_pair_by-requires-clause-clashes
turn_pair_by-requires-clause-clashes g c =
    let within : c.loop-row.row < length c.args.rows.now.items = omega (arith, c.loop-row-test.true, c.len-row-end.ensures) in
    turns_read (length c.args.turn.now.letters) c.args.rows.now.items c.loop-row.row c.index_mut.result.now within
    (c.index_mut.ensures.value ∙ current _ c.args.rows.now.items c.loop-row.rows.items c.loop-row.row c.index_mut.result.now within c.loop-row.invariant)
    _ _ refl c.args.origin.pivot c.args.turn.now (c.requires.clashes c.loop-row.row within)

pub loop-row-preserved : goal.loop-row-preserved
loop-row-preserved g c =
    let within : c.loop-row.row < length c.args.rows.now.items = omega (arith, c.loop-row-test.true, c.len-row-end.ensures) in
    mapped_more (turned c.args.turn.now) c.args.rows.now.items c.loop-row.rows.items c.loop-row.row c.index_mut.result.now c.turn_pair_by.new.pair within
    c.loop-row.invariant c.index_mut.ensures.value c.turn_pair_by.ensures
