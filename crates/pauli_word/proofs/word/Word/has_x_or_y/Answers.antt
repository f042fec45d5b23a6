use Rattle.std.proofs.Common.{◌≡◌, Bool, true, false, get_or, refl, ap, ◌∙◌, arith}
use Rattle.pauli_word.specs.Bits.{letter_of}
use Rattle.pauli_word.specs.declared.letter.Letter.TheVariants.{Z}
use Rattle.pauli_word.specs.Letters.{letters_clash}
use Rattle.pauli_word.proofs.BitWords.{seen_length, seen_letter}
use Rattle.pauli_word.proofs.word.Word.has_x_or_y.Goals as goal

clash_of_bits : (x z : Bool) → x ≡ letters_clash (letter_of x z) Z
clash_of_bits false false = refl
clash_of_bits false true = refl
clash_of_bits true false = refl
clash_of_bits true true = refl

pub get-requires : goal.get-requires
get-requires g c =
    let rows = seen_length c.self.inside.x c.self.inside.z c.self.inside.negative c.args.self.now c.self.invariant c.self.view_is in
    omega (arith, rows, c.requires)

pub returns : goal.returns
returns g c =
    c.get.ensures
    ∙ (clash_of_bits (get_or c.self.inside.x c.args.qubit false) (get_or c.self.inside.z c.args.qubit false)
    ∙ ap (λ a. letters_clash a Z) (seen_letter c.self.inside.x c.self.inside.z c.self.inside.negative c.args.self.now c.args.qubit c.self.invariant c.self.view_is))
