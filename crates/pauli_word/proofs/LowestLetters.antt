-- The lowest qubit at which a word has X or Y: its letter clashes with Z, and it is the first set x bit.
use Rattle.std.proofs.Common.{◌≡◌, ◌<◌, inl, inr, if◌then◌else◌, ℕ, suc, Bool, true, false, List, [], ◌∷◌, length, Option, None, Some, refl, ap, sym, ◌∙◌, subst, arith}
use Rattle.std.proofs.lemmas.Bool.{cases_Bool}
use Rattle.std.specs.Option.{option_map}
use Rattle.std.proofs.Math.Nat.{suc_inj}
use Rattle.bit_rows.specs.Rows.{first_one_of}
use Rattle.pauli_word.specs.Bits.{letter_of, letters_of}
use Rattle.pauli_word.specs.declared.letter.Letter.{Letter}
use Rattle.pauli_word.specs.declared.letter.Letter.TheVariants.{I, X, Y, Z}
use Rattle.pauli_word.specs.Letters.{letters_clash}
use Rattle.pauli_word.specs.Words.{letter_at, has_X_or_Y, lowest_X_or_Y}
use Rattle.std.proofs.lemmas.Option.{same_Some}

clash-Z : (a : Letter) → has_X_or_Y a ≡ true → letters_clash a Z ≡ true
clash-Z I h = h
clash-Z X h = refl
clash-Z Y h = refl
clash-Z Z h = h

-- the lowest qubit with X or Y is one of the word's, and its letter clashes with Z
pub lowest-clash : (w : List Letter) (q : ℕ) → lowest_X_or_Y w ≡ Some q → (q < length w) × (letters_clash (letter_at w q) Z ≡ true)
lowest-clash [] q h = cc
lowest-clash (a ∷ w) q h =
    elim (cases_Bool (has_X_or_Y a)) [
      | inl k ↦
          (let e : ◌≡◌ {A = Option ℕ} (Some 0) (Some q) = sym (ap (λ b. if b then Some 0 else option_map suc (lowest_X_or_Y w)) k) ∙ h in
          let z : 0 ≡ q = same_Some _ _ e in
          subst (λ i. (i < length (a ∷ w)) × (letters_clash (letter_at (a ∷ w) i) Z ≡ true)) z (omega arith, clash-Z a k))
      | inr k ↦
          (let e : option_map suc (lowest_X_or_Y w) ≡ Some q = sym (ap (λ b. if b then Some 0 else option_map suc (lowest_X_or_Y w)) k) ∙ h in
          further (λ k l. lowest-clash w k l) (lowest_X_or_Y w) refl e)
    ]
  where
    further : ((k : ℕ) → lowest_X_or_Y w ≡ Some k → (k < length w) × (letters_clash (letter_at w k) Z ≡ true)) → (o : Option ℕ) → lowest_X_or_Y w ≡ o → option_map suc o ≡ Some q → (q < length (a ∷ w)) × (letters_clash (letter_at (a ∷ w) q) Z ≡ true)
    further rest None l e = cc
    further rest (Some k) l e =
        let z : suc k ≡ q = same_Some _ _ e in
        let below = rest k l in
        let inside : suc k < length (a ∷ w) = omega (arith, below.0) in
        subst (λ i. (i < length (a ∷ w)) × (letters_clash (letter_at (a ∷ w) i) Z ≡ true)) z (inside, below.1)

-- ---- of a word kept as two rows
no_x : (b : Bool) → has_X_or_Y (letter_of false b) ≡ false
no_x false = refl
no_x true = refl

an_x : (b : Bool) → has_X_or_Y (letter_of true b) ≡ true
an_x false = refl
an_x true = refl

pub lowest-letters_of : (x z : List Bool) → length x ≡ length z → first_one_of x ≡ lowest_X_or_Y (letters_of x z)
lowest-letters_of [] z h = refl
lowest-letters_of (a ∷ x) [] h = cc
lowest-letters_of (true ∷ x) (b ∷ z) h =
    sym (ap (λ t. if t then Some 0 else option_map suc (lowest_X_or_Y (letters_of x z))) (an_x b))
lowest-letters_of (false ∷ x) (b ∷ z) h = later (first_one_of x) refl (lowest-letters_of x z (suc_inj h)) where
  later : (o : Option ℕ) → first_one_of x ≡ o → first_one_of x ≡ lowest_X_or_Y (letters_of x z) → first_one_of (false ∷ x) ≡ lowest_X_or_Y (letters_of (false ∷ x) (b ∷ z))
  later None e f =
      rw e
      (sym
      (ap (λ t. if t then Some 0 else option_map suc (lowest_X_or_Y (letters_of x z))) (no_x b)
      ∙ ap (option_map suc) (sym f ∙ e)))
  later (Some k) e f =
      rw e
      (sym
      (ap (λ t. if t then Some 0 else option_map suc (lowest_X_or_Y (letters_of x z))) (no_x b)
      ∙ (ap (option_map suc) (sym f ∙ e) ∙ ap Some (omega arith))))
