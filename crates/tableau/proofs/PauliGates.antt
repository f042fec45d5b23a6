-- The Pauli gates X and Z at a qubit do what the words of that letter do when they are applied; so a reset's correction
-- is a gate.
use Rattle.std.proofs.Common.{◌≡◌, ◌<◌, inl, inr, ◌⊎◌, ℕ, Bool, true, set, length, refl, ap, ap₂, sym, ◌∙◌}
use Rattle.std.proofs.lemmas.List.{set-get_or}
use Rattle.gate_table.specs.declared.gate.Gate.{Gate}
use Rattle.gate_table.specs.declared.gate.Gate.TheVariants as gate
use Rattle.gate_table.specs.Images.{image1, inverse_of}
use Rattle.gate_table.specs.WordImages.{preimage_at}
use Rattle.pauli_word.specs.declared.letter.Letter.{Letter}
use Rattle.pauli_word.specs.declared.letter.Letter.TheVariants.{I, X, Y, Z}
use Rattle.pauli_word.specs.Letters.{letters_clash}
use Rattle.pauli_word.specs.Parity.{exclusive_or}
use Rattle.pauli_word.specs.States.{State, applied, correcting}
use Rattle.pauli_word.specs.Words.{Signed, signed, with_sign_changed, anticommute, lone_letter, letter_at}
use Rattle.pauli_word.proofs.LetterLaws.{letters_clash_comm, letters_clash_of_I}
use Rattle.pauli_word.proofs.LoneLetters.{anticommute-lone_letter}
use Rattle.pauli_word.proofs.Parities.{exclusive_or_comm}
use Rattle.pauli_word.proofs.WordLaws.{anticommute_comm}

x_preimage : (a : Letter) → image1 (inverse_of gate.X) a ≡ (a, letters_clash a X)
x_preimage I = refl
x_preimage X = refl
x_preimage Y = refl
x_preimage Z = refl

z_preimage : (a : Letter) → image1 (inverse_of gate.Z) a ≡ (a, letters_clash a Z)
z_preimage I = refl
z_preimage X = refl
z_preimage Y = refl
z_preimage Z = refl

module _ (n q : ℕ) (inside : q < n) (p : Signed) (size : length p.letters ≡ n) where
  meets : (a : Letter) → anticommute p.letters (lone_letter n q a) ≡ letters_clash (letter_at p.letters q) a
  meets a =
      anticommute_comm p.letters (lone_letter n q a)
      ∙ (anticommute-lone_letter n p.letters q a size inside ∙ letters_clash_comm a (letter_at p.letters q))

  as_word : (g : Gate) (a : Letter) → ((b : Letter) → image1 (inverse_of g) b ≡ (b, letters_clash b a)) → preimage_at g q p ≡ with_sign_changed (anticommute p.letters (lone_letter n q a)) p
  as_word g a preimage =
      ap (λ i. signed (set p.letters q i.0) (exclusive_or p.negative i.1)) (preimage (letter_at p.letters q))
      ∙ ap₂ signed (set-get_or p.letters q I)
      (exclusive_or_comm p.negative (letters_clash (letter_at p.letters q) a)
      ∙ ap (λ b. exclusive_or b p.negative) (sym (meets a)))

  pub corrected_by_Z : (s : State) (letter : Letter) (b : Bool) → b ≡ true → letter ≡ X → s (preimage_at gate.Z q p) ≡ applied b (lone_letter n q (correcting letter)) s p
  corrected_by_Z s letter b b_is letter_is =
      ap s (as_word gate.Z Z z_preimage)
      ∙ sym (ap₂ (λ c a. applied c (lone_letter n q (correcting a)) s p) b_is letter_is)

  pub corrected_by_X : (s : State) (letter : Letter) (b : Bool) → b ≡ true → (letter ≡ Y) ⊎ (letter ≡ Z) → s (preimage_at gate.X q p) ≡ applied b (lone_letter n q (correcting letter)) s p
  corrected_by_X s letter b b_is letter_is =
      ap s (as_word gate.X X x_preimage)
      ∙ sym (ap₂ (λ c a. applied c (lone_letter n q a) s p) b_is (elim letter_is [ inl e ↦ ap correcting e | inr e ↦ ap correcting e ]))

  pub not_corrected : (s : State) (letter : Letter) (b : Bool) → b ≡ true → letter ≡ I → s p ≡ applied b (lone_letter n q (correcting letter)) s p
  not_corrected s letter b b_is letter_is =
      sym
      (ap₂ (λ c a. applied c (lone_letter n q (correcting a)) s p) b_is letter_is
      ∙ ap (λ c. s (with_sign_changed c p))
      (meets I ∙ (letters_clash_comm (letter_at p.letters q) I ∙ letters_clash_of_I (letter_at p.letters q))))
