-- The letter that a row has at the pivot's qubit once it is multiplied by a word of the pivot.
use Rattle.std.proofs.Common.{◌≡◌, ◌<◌, ℕ, length, ap, sym, ◌∙◌, subst, get_or-set_same}
use Rattle.std.proofs.lemmas.List.{length-replicate}
use Rattle.pauli_word.specs.declared.letter.Letter.{Letter}
use Rattle.pauli_word.specs.declared.letter.Letter.TheVariants.{I, Z}
use Rattle.pauli_word.specs.Letters.{letter_product}
use Rattle.pauli_word.specs.Words.{Signed, letter_at, lone_letter, no_letters, product}
use Rattle.pauli_word.proofs.LetterLaws.{letter_product-I}
use Rattle.pauli_word.proofs.LoneLetters.{length-lone_letter}
use Rattle.pauli_word.proofs.WordPlaces.{letter_at-product}
use Rattle.tableau.specs.private.Encoding.{Pair}
use Rattle.tableau.specs.private.EncodingSteps.{IsPivot}

module _ (n k : ℕ) (r : Pair) (pivot : IsPivot n k r) where
  letter_of_Z : letter_at (lone_letter n k Z) k ≡ Z
  letter_of_Z = get_or-set_same (no_letters n) k Z I (subst (λ m. k < m) (sym (length-replicate n I)) pivot.inside)

  -- the second word of the pivot has Z there
  turned_letter : letter_at r.1.letters k ≡ Z
  turned_letter =
      ap (λ w. letter_at w.letters k) pivot.turned
      ∙ (letter_at-product r.0.letters (lone_letter n k Z) k (pivot.rest_size ∙ sym (length-lone_letter n k Z))
      ∙ (ap (λ a. letter_product a (letter_at (lone_letter n k Z) k)) pivot.rest ∙ letter_of_Z))

  -- the first leaves the letter
  pub letter_kept : (v new : Signed) → length v.letters ≡ n → new ≡ product v r.0 → (a : Letter) → a ≡ letter_at v.letters k → a ≡ letter_at new.letters k
  letter_kept v new size new_is a here =
      sym (ap (λ w. letter_at w.letters k) new_is
      ∙ (letter_at-product v.letters r.0.letters k (size ∙ sym pivot.rest_size)
      ∙ (ap (letter_product (letter_at v.letters k)) pivot.rest ∙ (letter_product-I (letter_at v.letters k) ∙ sym here))))

  -- the second multiplies it by Z
  pub letter_turned : (v new : Signed) → length v.letters ≡ n → length r.1.letters ≡ n → new ≡ product v r.1 → (a : Letter) → a ≡ letter_at v.letters k → (b : Letter) → b ≡ letter_product a Z → b ≡ letter_at new.letters k
  letter_turned v new size long new_is a here b b_is =
      b_is
      ∙ (ap (λ c. letter_product c Z) here
      ∙ sym (ap (λ w. letter_at w.letters k) new_is
      ∙ (letter_at-product v.letters r.1.letters k (size ∙ sym long) ∙ ap (letter_product (letter_at v.letters k)) turned_letter)))
