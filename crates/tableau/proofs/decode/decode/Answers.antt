use Rattle.std.proofs.Common.{◌<◌, length, false, ap, sym, subst, ◌∙◌, arith, length-set}
use Rattle.pauli_word.specs.Words.{letter_at, signed}
use Rattle.tableau.proofs.DecodeLoop.{letter_read, decode_more, decode_end}
use Rattle.tableau.proofs.PairWords.{pair_size}
use Rattle.tableau.proofs.decode.decode.Goals as goal

pub decoded_letter-requires-clause-x : goal.decoded_letter-requires-clause-x
decoded_letter-requires-clause-x g c =
    let within : c.loop-qubit.qubit < length c.args.rows.now.items = omega (arith, c.loop-qubit-test.true, c.len-qubit-end.ensures) in
    subst (λ m. c.args.row < m) (sym (pair_size c.args.rows.now.items c.requires.tableau c.loop-qubit.qubit c.index.result.now within c.index.ensures).x) c.requires.inside

pub decoded_letter-requires-clause-z : goal.decoded_letter-requires-clause-z
decoded_letter-requires-clause-z g c =
    let within : c.loop-qubit.qubit < length c.args.rows.now.items = omega (arith, c.loop-qubit-test.true, c.len-qubit-end.ensures) in
    subst (λ m. c.args.row < m) (sym (pair_size c.args.rows.now.items c.requires.tableau c.loop-qubit.qubit c.index.result.now within c.index.ensures).z) c.requires.inside

pub loop-qubit-preserved : goal.loop-qubit-preserved
loop-qubit-preserved g c =
    let within : c.loop-qubit.qubit < length c.args.rows.now.items = omega (arith, c.loop-qubit-test.true, c.len-qubit-end.ensures) in
    let letters = ap (λ w. w.letters) c.set_letter.ensures in
    let inv = c.loop-qubit.invariant in
    let read = letter_read c.args.rows.now.items c.requires.tableau c.args.row c.requires.inside c.loop-qubit.qubit c.index.result.now c.decoded_letter.result within c.index.ensures c.decoded_letter.ensures in (
      ap length letters ∙ (length-set c.loop-qubit.word.letters c.loop-qubit.qubit c.decoded_letter.result ∙ inv.0),
      λ j h. ap (λ l. letter_at l j) letters ∙ decode_more c.args.rows.now.items c.requires.tableau c.args.row c.requires.inside c.loop-qubit.qubit c.loop-qubit.word.letters c.decoded_letter.result within inv.0 read inv.1 j h,
    )

pub returns : goal.returns
returns g c =
    c.set_sign.ensures
    ∙ ap (λ l. signed l false)
    (decode_end c.args.rows.now.items c.requires.tableau c.args.row c.requires.inside c.loop-qubit.qubit c.loop-qubit.word.letters c.loop-qubit.invariant.0
    (omega (arith, c.loop-qubit-test.false, c.len-qubit-end.ensures)) c.loop-qubit.invariant.1)
