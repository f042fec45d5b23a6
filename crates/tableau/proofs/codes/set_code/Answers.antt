use Rattle.std.proofs.Common.{length, ap, ap₂, sym, subst, ◌∙◌}
use Rattle.pauli_word.proofs.LoneLetters.{length-lone_letter}
use Rattle.tableau.specs.private.Encoding.{HasLength, word_of}
use Rattle.tableau.specs.private.EncodingSteps.{lone}
use Rattle.tableau.proofs.PairWords.{pair_size, pair_read}
use Rattle.tableau.proofs.RowMaps.{row_encoded}
use Rattle.tableau.proofs.codes.set_code.Goals as goal

pub set_word-requires : goal.set_word-requires
set_word-requires g c =
    subst (λ m. HasLength m c.index.result.now) (sym c.requires.code.x) (pair_size c.args.rows.now.items c.requires.tableau c.args.qubit c.index.result.now c.requires.inside c.index.ensures)

pub returns : goal.returns
returns g c =
    let rows = c.args.rows.now.items in
    let n = length rows in
    let q = c.args.qubit in
    let a = c.args.letter in
    let of_letter =
    c.set_word.ensures
    ∙ (ap₂ (λ m r. word_of m r a) c.requires.code.x (pair_read n rows q c.index.result.now c.requires.inside c.index.ensures)
    ∙ sym (row_encoded n rows c.requires.tableau q a c.requires.inside)) in
    record {
      code = record {
        x = ap (λ w. length w.letters) of_letter ∙ c.requires.tableau.clifford.keeps.size (lone n q a) (length-lone_letter n q a);
        z = c.requires.code.z;
      };
      of_letter = of_letter;
    }
