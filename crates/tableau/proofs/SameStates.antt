-- Two Clifford maps after which the start state is seen: where each word of the one state is in the other, the two are
-- the same. For a word that is in the other alone commutes with all its words, so it or its negative is in the first.
use Rattle.std.proofs.Common.{◌≡◌, inl, inr, ℕ, Bool, true, false, not, ◌&&◌, ◌<◌, length, Option, None, Some, refl, ap, sym, subst, ◌∙◌}
use Rattle.std.proofs.lemmas.Bool.{cases_Bool, and_parts}
use Rattle.std.specs.List.{list_all}
use Rattle.pauli_word.specs.declared.letter.Letter.TheVariants.{Z}
use Rattle.pauli_word.specs.Words.{Signed, with_sign_changed, anticommute, lone_letter, letter_at, lowest_X_or_Y}
use Rattle.pauli_word.specs.States.{is_I_or_Z, start_state}
use Rattle.pauli_word.proofs.Groups.{IsGroup-start}
use Rattle.pauli_word.proofs.LetterLaws.{letters_clash_comm}
use Rattle.pauli_word.proofs.LoneLetters.{anticommute-lone_letter}
use Rattle.pauli_word.proofs.LowestLetters.{lowest-clash}
use Rattle.pauli_word.proofs.WordLaws.{anticommute_comm}
use Rattle.tableau.specs.private.CliffordMaps.{IsClifford}
use Rattle.tableau.specs.private.EncodingSteps.{lone}
use Rattle.tableau.proofs.DiagonalWords.{all_diagonal, start_diagonal, Z_in_start}
use Rattle.tableau.proofs.RowMaps.{products_kept, kept_sign}

module _ (n : ℕ) (f g : Signed → Signed) (f_is : IsClifford n f) (g_is : IsClifford n g) (into : (p : Signed) → length p.letters ≡ n → start_state (f p) ≡ true → start_state (g p) ≡ true) where
  sign_of : (h : Signed → Signed) (h_is : IsClifford n h) (p : Signed) → length p.letters ≡ n → h (with_sign_changed true p) ≡ with_sign_changed true (h p)
  sign_of h h_is p size = kept_sign n n h (products_kept n h h_is.keeps) true p size

  opposite : (b : Bool) → not b ≡ true → not (not b) ≡ true → ⊥
  opposite false h k = cc
  opposite true h k = cc

  neither : (p : Signed) → length p.letters ≡ n → start_state (g p) ≡ true → start_state (f p) ≡ false → (o : Option ℕ) → lowest_X_or_Y (f p).letters ≡ o → ⊥
  neither p size in_g out_f None low =
      let all = all_diagonal (f p).letters low in
      let minus : not (f p).negative ≡ false = sym (ap (λ b. b && not (f p).negative) all) ∙ out_f in
      let in_f : start_state (f (with_sign_changed true p)) ≡ true =
      ap start_state (sign_of f f_is p size)
      ∙ (start_diagonal (f p).letters (not (f p).negative) all ∙ ap not minus) in
      let both = sym (ap start_state (sign_of g g_is p size)) ∙ into (with_sign_changed true p) size in_f in
      opposite (g p).negative
      (and_parts (list_all is_I_or_Z (g p).letters) (not (g p).negative) in_g).1
      (and_parts (list_all is_I_or_Z (g p).letters) (not (not (g p).negative)) both).1
  neither p size in_g out_f (Some j) low =
      let clash = lowest-clash (f p).letters j low in
      let within : j < n = subst (λ m. j < m) (f_is.keeps.size p size) clash.0 in
      let z = lone n j Z in
      let z_in = Z_in_start n j in
      let w = f_is.back z in
      let w_size = f_is.back_keeps.size z z_in.size in
      let w_is : f w ≡ z = f_is.right z z_in.size in
      let w_in : start_state (g w) ≡ true = into w w_size (ap start_state w_is ∙ z_in.member) in
      let commute : anticommute (g p).letters (g w).letters ≡ false =
      (IsGroup-start n).commuting (g p) (g w) (record { size = g_is.keeps.size p size; member = in_g }) (record { size = g_is.keeps.size w w_size; member = w_in }) in
      let apart : anticommute (f p).letters (lone_letter n j Z) ≡ true =
      anticommute_comm (f p).letters (lone_letter n j Z)
      ∙ (anticommute-lone_letter n (f p).letters j Z (f_is.keeps.size p size) within
      ∙ (letters_clash_comm Z (letter_at (f p).letters j) ∙ clash.1)) in
      let c : true ≡ false =
      sym apart
      ∙ (ap (λ v. anticommute (f p).letters v.letters) (sym w_is)
      ∙ (f_is.keeps.anticommuting p w size w_size
      ∙ (sym (g_is.keeps.anticommuting p w size w_size) ∙ commute))) in
      cc

  pub same_states : (p : Signed) → length p.letters ≡ n → start_state (g p) ≡ start_state (f p)
  same_states p size = elim (cases_Bool (start_state (f p))) [
    | inl e ↦ into p size e ∙ sym e
    | inr e ↦ elim (cases_Bool (start_state (g p))) [
      | inl k ↦ absurd (neither p size k e (lowest_X_or_Y (f p).letters) refl)
      | inr k ↦ k ∙ sym e
    ]
  ]
