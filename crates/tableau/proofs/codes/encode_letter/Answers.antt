use Rattle.std.proofs.Common.{◌<◌, length, set, ap, sym, subst, ◌∙◌}
use Rattle.std.proofs.lemmas.List.{length-replicate}
use Rattle.pauli_word.specs.declared.letter.Letter.TheVariants.{I}
use Rattle.pauli_word.specs.Words.{signed}
use Rattle.pauli_word.proofs.LoneLetters.{length-lone_letter}
use Rattle.tableau.specs.private.EncodingSteps.{lone, code_of}
use Rattle.tableau.proofs.codes.encode_letter.Goals as goal

pub set_letter-requires : goal.set_letter-requires
set_letter-requires g c =
    subst (λ m. c.args.qubit < m) (sym (ap (λ w. length w.letters) c.clear.ensures ∙ (length-replicate (length c.args.word.now.0.letters) I ∙ c.requires.word.x))) c.requires.inside

pub returns : goal.returns
returns g c =
    let rows = c.args.rows.now.items in
    let n = length rows in
    let q = c.args.qubit in
    let a = c.args.letter in
    let letter =
    c.set_letter.ensures
    ∙ (ap (λ w. signed (set w.letters q a) w.negative) c.clear.ensures ∙ ap (λ m. lone m q a) c.requires.word.x) in
    record {
      word = record { x = ap (λ w. length w.letters) letter ∙ length-lone_letter n q a; z = c.requires.word.z };
      code = c.set_code.ensures.code;
      letter = letter;
      of_word = c.set_code.ensures.of_letter ∙ ap (λ w. code_of n rows w.letters) (sym letter);
    }
