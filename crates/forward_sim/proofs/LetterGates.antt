-- The gates I, X, Y and Z change the sign of the words that anticommute with their letter, and nothing else.
use Rattle.std.proofs.Common.{◌≡◌, ℕ, ◌<◌, length, refl, sym, ap, ap₂, ◌∙◌}
use Rattle.std.proofs.lemmas.List.{set-get_or}
use Rattle.gate_table.specs.declared.gate.Gate.{Gate}
use Rattle.gate_table.specs.declared.gate.Gate.TheVariants as gate
use Rattle.gate_table.specs.Images.{image1, inverse_of}
use Rattle.gate_table.specs.WordImages.{preimage_at}
use Rattle.pauli_word.specs.declared.letter.Letter.{Letter}
use Rattle.pauli_word.specs.declared.letter.Letter.TheVariants.{I, X, Y, Z}
use Rattle.pauli_word.specs.Letters.{letters_clash}
use Rattle.pauli_word.specs.Parity.{exclusive_or}
use Rattle.pauli_word.specs.Words.{Signed, signed, anticommute, letter_at, lone_letter, with_sign_changed}
use Rattle.pauli_word.proofs.LoneLetters.{anticommute-lone_letter}
use Rattle.pauli_word.proofs.Parities.{exclusive_or_comm}
use Rattle.pauli_word.proofs.WordLaws.{anticommute_comm}
use Rattle.std.specs.Prelude.{slice_set}

abbrev pub gate_of : Letter → Gate
gate_of I = gate.I
gate_of X = gate.X
gate_of Y = gate.Y
gate_of Z = gate.Z

image : (l a : Letter) → image1 (inverse_of (gate_of l)) a ≡ (a, letters_clash l a)
image I I = refl
image X I = refl
image Y I = refl
image Z I = refl
image l a = refl

pub preimage_at-letter : (n : ℕ) (l : Letter) (q : ℕ) (p : Signed) → length p.letters ≡ n → q < n → preimage_at (gate_of l) q p ≡ with_sign_changed (anticommute p.letters (lone_letter n q l)) p
preimage_at-letter n l q p size inside =
    let a = letter_at p.letters q in
    ap (λ x. signed (slice_set p.letters q x.0) (exclusive_or p.negative x.1)) (image l a)
    ∙ ap₂ signed (set-get_or p.letters q I)
    (exclusive_or_comm p.negative (letters_clash l a)
    ∙ ap (λ b. exclusive_or b p.negative) (sym (anticommute-lone_letter n p.letters q l size inside) ∙ anticommute_comm (lone_letter n q l) p.letters))
