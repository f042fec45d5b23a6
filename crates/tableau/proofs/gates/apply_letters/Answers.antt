use Rattle.std.proofs.Common.{◌<◌, length, ap, sym, ◌∙◌, arith}
use Rattle.tableau.specs.private.EncodingSteps.{after_word}
use Rattle.tableau.proofs.FirstLetters.{after_no_letters, letter_applied, first-all}
use Rattle.tableau.proofs.gates.apply_letters.Goals as goal

pub loop-qubit-init : goal.loop-qubit-init
loop-qubit-init g c = sym (after_no_letters (length c.args.word.now.letters) c.args.rows.now.items)

pub loop-qubit-preserved : goal.loop-qubit-preserved
loop-qubit-preserved g c =
    let within : c.loop-qubit.qubit < length c.args.word.now.letters = omega (arith, c.loop-qubit-test.true, c.len-qubit-end.ensures, c.requires) in
    letter_applied c.args.word.now.letters c.args.rows.now.items c.loop-qubit.rows.items c.loop-qubit.qubit within c.loop-qubit.invariant c.index_mut.result.now c.index_mut.ensures.value c.letter.result c.letter.ensures c.apply_letter.new.pair c.apply_letter.ensures

pub returns : goal.returns
returns g c =
    c.loop-qubit.invariant
    ∙ ap (λ w. after_word w c.args.rows.now.items) (first-all c.loop-qubit.qubit c.args.word.now.letters (omega (arith, c.loop-qubit-test.false, c.len-qubit-end.ensures, c.requires)))
