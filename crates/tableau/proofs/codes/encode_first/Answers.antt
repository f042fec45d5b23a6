use Rattle.std.proofs.Common.{◌<◌, length, ap, sym, subst, ◌∙◌, arith}
use Rattle.pauli_word.specs.Groups.{identity_word}
use Rattle.tableau.specs.private.Encoding.{HasLength}
use Rattle.tableau.proofs.PairWords.{pair_size, none_encoded, first_encoded}
use Rattle.tableau.proofs.codes.encode_first.Given.{Over}
use Rattle.tableau.proofs.codes.encode_first.Goals as goal
use Rattle.tableau.proofs.codes.encode_first.Goals.{In-Some}

within : (g : Over) (c : In-Some g) → c.in-Some.qubit < length c.args.rows.now.items
within g c = omega (arith, c.in-Some.ensures.1, c.requires.word)

pub index-requires : goal.index-requires
index-requires g c = subst (λ m. c.in-Some.qubit < m) (sym c.args.rows.now.ok.0) (within g (goal.at.index-requires g c).In-Some)

pub set_word-requires : goal.set_word-requires
set_word-requires g c =
    subst (λ m. HasLength m c.index.result.now) (sym c.requires.code.x)
    (pair_size c.args.rows.now.items c.requires.tableau c.in-Some.qubit c.index.result.now (within g (goal.at.set_word-requires g c).In-Some) c.index.ensures)

pub returns-in-None-clause-first : goal.returns-in-None-clause-first
returns-in-None-clause-first g c =
    c.clear.ensures ∙ (ap identity_word c.requires.code.x ∙ none_encoded c.args.rows.now.items c.requires.tableau c.args.word.now.letters c.requires.word)

pub returns-in-Some-clause-first : goal.returns-in-Some-clause-first
returns-in-Some-clause-first g c =
    first_encoded c.args.rows.now.items c.requires.tableau c.args.word.now.letters c.in-Some.qubit c.requires.word (within g (goal.at.returns-in-Some-clause-first g c).In-Some) c.in-Some.ensures.3
    c.index.result.now c.index.ensures _ c.requires.code.x c.set_word.new.word c.letter.result c.letter.ensures c.set_word.ensures
