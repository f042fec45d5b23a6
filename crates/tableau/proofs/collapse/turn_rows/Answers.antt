use Rattle.std.proofs.Common.{◌<◌, length, sym, subst, ◌∙◌, arith}
use Rattle.gate_table.specs.WordImages.{image_at}
use Rattle.pauli_word.specs.declared.letter.Letter.TheVariants.{Z}
use Rattle.pauli_word.specs.Words.{Signed, letter_at}
use Rattle.tableau.specs.private.CliffordMaps.{twisted}
use Rattle.tableau.specs.private.Encoding.{HasLength}
use Rattle.tableau.specs.private.EncodingSteps.{lone, turning_gate}
use Rattle.tableau.proofs.RowClashes.{clashes_read}
use Rattle.tableau.proofs.TwistRows.{current, mapped_more}
use Rattle.tableau.proofs.collapse.turn_rows.Goals as goal

pub turn_pair-requires-clause-size : goal.turn_pair-requires-clause-size
turn_pair-requires-clause-size g c =
    let within : c.loop-row.row < length c.args.rows.now.items = omega (arith, c.loop-row-test.true, c.len-row-end.ensures) in
    subst (HasLength (length c.args.code.now.0.letters))
    (sym (c.index_mut.ensures.value ∙ current _ c.args.rows.now.items c.loop-row.rows.items c.loop-row.row c.index_mut.result.now within c.loop-row.invariant))
    (c.requires.sizes c.loop-row.row c.index_mut.result.now within)

pub turn_pair-requires-clause-clashes : goal.turn_pair-requires-clause-clashes
turn_pair-requires-clause-clashes g c =
    let within : c.loop-row.row < length c.args.rows.now.items = omega (arith, c.loop-row-test.true, c.len-row-end.ensures) in
    clashes_read (length c.args.code.now.0.letters) c.args.rows.now.items c.loop-row.row c.index_mut.result.now within
    (c.index_mut.ensures.value ∙ current _ c.args.rows.now.items c.loop-row.rows.items c.loop-row.row c.index_mut.result.now within c.loop-row.invariant)
    (letter_at c.args.word.now.letters c.loop-row.row) c.letter-measured.result c.args.letter c.letter-measured.ensures c.args.qubit c.args.code.now.0 (c.requires.clashes c.loop-row.row within)

pub loop-row-preserved : goal.loop-row-preserved
loop-row-preserved g c =
    let within : c.loop-row.row < length c.args.rows.now.items = omega (arith, c.loop-row-test.true, c.len-row-end.ensures) in
    let turn : Signed → Signed = λ v. image_at (turning_gate c.args.letter) c.args.qubit (twisted (lone (length c.args.code.now.0.letters) c.args.qubit Z) c.args.code.now.0 v) in
    mapped_more turn c.args.rows.now.items c.loop-row.rows.items c.loop-row.row c.index_mut.result.now c.turn_pair.new.pair within
    c.loop-row.invariant c.index_mut.ensures.value c.turn_pair.ensures
