use Rattle.std.proofs.Common.{◌≡◌, ◌<◌, false, length, ap, sym, subst, ◌∙◌, arith}
use Rattle.pauli_word.specs.Words.{signed}
use Rattle.tableau.specs.private.EncodingSteps.{code_of, first_letters}
use Rattle.tableau.proofs.FirstLetters.{first-skip, first-end}
use Rattle.tableau.proofs.PairWords.{encode_size, encode_commutes, encode_more}
use Rattle.tableau.proofs.codes.encode.Given.{Over}
use Rattle.tableau.proofs.codes.encode.Goals as goal
use Rattle.tableau.proofs.codes.encode.Goals.{In-Some}

within : (g : Over) (c : In-Some g) → c.in-Some.qubit < length c.args.rows.now.items
within g c = omega (arith, c.in-Some.ensures.1, c.requires.word)

-- letters I that were passed change no code
passed : (g : Over) (c : In-Some g) → c.loop-qubit.code.0 ≡ code_of (length c.args.rows.now.items) c.args.rows.now.items (first_letters c.in-Some.qubit c.args.word.now.letters)
passed g c =
    c.loop-qubit.invariant.code
    ∙ ap (code_of (length c.args.rows.now.items) c.args.rows.now.items) (first-skip c.loop-qubit.start c.in-Some.qubit c.args.word.now.letters c.in-Some.ensures.0 c.in-Some.ensures.3)

pub index-requires : goal.index-requires
index-requires g c = subst (λ m. c.in-Some.qubit < m) (sym c.args.rows.now.ok.0) (within g (goal.at.index-requires g c).In-Some)

pub multiply-requires-clause-size : goal.multiply-requires-clause-size
multiply-requires-clause-size g c =
    let at = (goal.at.multiply-requires-clause-size g c).In-Some in
    encode_size c.args.rows.now.items c.requires.tableau c.args.word.now.letters c.in-Some.qubit c.requires.word (within g at) c.loop-qubit.code.0 (passed g at) c.index.result.now c.index.ensures

pub multiply-requires-clause-commuting : goal.multiply-requires-clause-commuting
multiply-requires-clause-commuting g c is_Y =
    let at = (goal.at.multiply-requires-clause-commuting g c).In-Some in
    encode_commutes c.args.rows.now.items c.requires.tableau c.args.word.now.letters c.in-Some.qubit c.requires.word (within g at) c.loop-qubit.code.0 (passed g at) c.index.result.now c.index.ensures

pub loop-qubit-preserved : goal.loop-qubit-preserved
loop-qubit-preserved g c =
    let at = (goal.at.loop-qubit-preserved g c).In-Some in
    record {
      code =
          encode_more c.args.rows.now.items c.requires.tableau c.args.word.now.letters c.in-Some.qubit c.requires.word (within g at) c.loop-qubit.code.0 (passed g at) c.index.result.now c.index.ensures
          c.multiply.new.word c.letter.result c.letter.ensures c.multiply.ensures;
      other = c.loop-qubit.invariant.other;
    }

pub loop-qubit-smaller : goal.loop-qubit-smaller
loop-qubit-smaller g c = omega (arith, c.in-Some.ensures.0, c.in-Some.ensures.1)

pub returns : goal.returns
returns g c =
    let rows = c.args.rows.now.items in
    let of_word =
    c.loop-qubit.invariant.code
    ∙ ap (code_of (length rows) rows) (first-end c.loop-qubit.start c.args.word.now.letters c.in_default.ensures) in
    record {
      code = record {
        x = ap (λ w. length w.letters) of_word ∙ c.requires.tableau.clifford.keeps.size (signed c.args.word.now.letters false) c.requires.word;
        z = ap (λ w. length w.letters) c.loop-qubit.invariant.other ∙ c.requires.code.z;
      };
      of_word = of_word;
    }
