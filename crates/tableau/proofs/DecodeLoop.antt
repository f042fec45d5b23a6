-- The loop that reads a destabilizer letter by letter.
use Rattle.std.proofs.Common.{◌≡◌, ◌<◌, ◌≤◌, ◌+◌, inl, inr, ℕ, List, length, set, get_or, refl, ap, ap₂, sym, subst, ◌∙◌, arith, get_or-set_same, get_or-set_other}
use Rattle.std.proofs.lemmas.Bool.{cases_eq, cases_lt}
use Rattle.std.proofs.lemmas.List.{ext_get_or}
use Rattle.pauli_word.specs.Bits.{letter_of}
use Rattle.pauli_word.specs.declared.letter.Letter.{Letter}
use Rattle.pauli_word.specs.declared.letter.Letter.TheVariants.{I, X, Z}
use Rattle.pauli_word.specs.Letters.{letters_clash}
use Rattle.pauli_word.specs.Words.{lone_letter, letter_at}
use Rattle.pauli_word.proofs.LetterLaws.{letters_clash_comm}
use Rattle.pauli_word.proofs.LoneLetters.{anticommute-lone_letter}
use Rattle.tableau.specs.private.Decoding.{decoded_letters}
use Rattle.tableau.specs.private.Encoding.{Pair, pair_at, IsTableau}
use Rattle.tableau.proofs.DecodingLaws.{letter-decoded, length-decoded}
use Rattle.tableau.proofs.PairWords.{pair_read}

module _ (rows : List Pair) (is : IsTableau (length rows) rows) (row : ℕ) (inside : row < length rows) where
  abbrev n : ℕ
  n = length rows

  abbrev D : List Letter
  D = decoded_letters rows (lone_letter n row X)

  pub letter_read : (q : ℕ) (r : Pair) (a : Letter) → q < n → r ≡ get_or rows q r → a ≡ letter_of (letters_clash X (letter_at r.1.letters row)) (letters_clash X (letter_at r.0.letters row)) → letter_at D q ≡ a
  letter_read q r a h r_is a_is =
      letter-decoded n n rows (lone_letter n row X) q refl h
      ∙ (ap₂ letter_of
      (anticommute-lone_letter n (pair_at n rows q).1.letters row X (is.z_size q h) inside)
      (anticommute-lone_letter n (pair_at n rows q).0.letters row X (is.x_size q h) inside)
      ∙ sym (a_is ∙ ap (λ t. letter_of (letters_clash X (letter_at t.1.letters row)) (letters_clash X (letter_at t.0.letters row))) (pair_read n rows q r h r_is)))

  -- the same of a stabilizer, whose code is Z at the row
  pub stabilizer_read : (q : ℕ) (r : Pair) (a : Letter) → q < n → r ≡ get_or rows q r → a ≡ letter_of (letters_clash (letter_at r.1.letters row) Z) (letters_clash (letter_at r.0.letters row) Z) → letter_at (decoded_letters rows (lone_letter n row Z)) q ≡ a
  stabilizer_read q r a h r_is a_is =
      letter-decoded n n rows (lone_letter n row Z) q refl h
      ∙ (ap₂ letter_of
      (anticommute-lone_letter n (pair_at n rows q).1.letters row Z (is.z_size q h) inside ∙ letters_clash_comm Z (letter_at (pair_at n rows q).1.letters row))
      (anticommute-lone_letter n (pair_at n rows q).0.letters row Z (is.x_size q h) inside ∙ letters_clash_comm Z (letter_at (pair_at n rows q).0.letters row))
      ∙ sym (a_is ∙ ap (λ t. letter_of (letters_clash (letter_at t.1.letters row) Z) (letters_clash (letter_at t.0.letters row) Z)) (pair_read n rows q r h r_is)))

  pub decode_more : (q : ℕ) (l : List Letter) (a : Letter) → q < n → length l ≡ n → letter_at D q ≡ a → ((j : ℕ) → j < q → letter_at l j ≡ letter_at D j) → (j : ℕ) → j < q + 1 → letter_at (set l q a) j ≡ letter_at D j
  decode_more q l a h size a_is so_far j k = elim (cases_eq j q) [
    | inl e ↦ ap (letter_at (set l q a)) e ∙ (get_or-set_same l q a I (subst (λ m. q < m) (sym size) h) ∙ (sym a_is ∙ ap (letter_at D) (sym e)))
    | inr ne ↦ get_or-set_other l q j a I ne ∙ so_far j (before j q k ne)
  ]
    where
      before : (j q : ℕ) → j < q + 1 → (j ≡ q → ⊥) → j < q
      before j q k ne = elim (cases_lt j q) [
        | inl l ↦ l
        | inr l ↦ absurd (ne (omega (arith, k, l)))
      ]

  pub decode_end : (q : ℕ) (l : List Letter) → length l ≡ n → n ≤ q → ((j : ℕ) → j < q → letter_at l j ≡ letter_at D j) → l ≡ D
  decode_end q l size past so_far =
      ext_get_or I l D (size ∙ sym (length-decoded rows (lone_letter n row X)))
      (λ j h. so_far j (past_it j h))
    where
      past_it : (j : ℕ) → j < length l → j < q
      past_it j h = let k : j < n = subst (λ m. j < m) size h in omega (arith, k, past)
