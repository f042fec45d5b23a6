use Rattle.std.proofs.Common.{◌≡◌, Bool, true, false, not, set, refl, sym, ap, ap₂, ◌∙◌}
use Rattle.std.proofs.Math.Bool.{beq}
use Rattle.gate_table.specs.Images.{image1}
use Rattle.pauli_word.specs.declared.letter.Letter.{Letter}
use Rattle.pauli_word.specs.Parity.{exclusive_or}
use Rattle.pauli_word.specs.Words.{Signed, signed}
use Rattle.tableau.proofs.LettersPut.{image_put}
use Rattle.tableau.proofs.collapse.put_image.Goals as goal

differ : (s t : Bool) → not (beq s t) ≡ exclusive_or s t
differ true true = refl
differ true false = refl
differ false true = refl
differ false false = refl

pub returns : goal.returns
returns g c =
    let w = c.args.word.now in
    let image = image1 c.args.gate c.args.here in
    let put = c.set_letter.ensures in
    let found = c.image1-letter.ensures in
    let letters = ap (λ (v : Signed). v.letters) put ∙ ap (λ (r : Letter × Bool). set w.letters c.args.qubit r.0) found in
    let sign = c.sign.ensures ∙ ap (λ (v : Signed). v.negative) put in
    let made : c.set_sign.new.self ≡ signed (set w.letters c.args.qubit image.0) (exclusive_or w.negative image.1) =
    c.set_sign.ensures
    ∙ ap₂ signed letters
    (differ c.sign.result c.image1-letter.result.1 ∙ ap₂ exclusive_or sign (ap (λ (r : Letter × Bool). r.1) found)) in
    made ∙ sym (image_put c.args.gate c.args.qubit w c.args.here c.requires.inside)
