-- The next letter of a word that is kept as two rows of bits: where one of them has a one.
use Rattle.std.proofs.Common.{◌≡◌, ◌≢◌, ◌<◌, ◌≤◌, ◌⊎◌, ℕ, Bool, true, false, List, Option, None, Some, length, get_or, sym, ap, ap₂, ◌∙◌, arith, ⊎_elim}
use Rattle.std.specs.Option.{IfNone, IfSome}
use Rattle.bit_rows.specs.Rows.{AreZeroAt}
use Rattle.pauli_word.specs.declared.letter.Letter.TheVariants.{I}
use Rattle.pauli_word.specs.Bits.{letter_of, letters_of}
use Rattle.pauli_word.specs.Words.{Signed, letter_at, IsNextLetter}
use Rattle.pauli_word.proofs.BitWords.{seen_length, seen_letter}

has_x : (z : Bool) → letter_of true z ≢ I
has_x true e = cc
has_x false e = cc

has_z : (x : Bool) → letter_of x true ≢ I
has_z true e = cc
has_z false e = cc

module _ (x z : List Bool) (negative : Bool) (w : Signed) (long : length x ≡ length z) (seen : record { letters = letters_of x z; negative = negative } ≡ w) where
  none_at : (k : ℕ) → AreZeroAt k x z → letter_at w.letters k ≡ I
  none_at k none = sym (seen_letter x z negative w k long seen) ∙ ap₂ letter_of none.0 none.1

  some_at : (k : ℕ) → (get_or x k false ≡ true) ⊎ (get_or z k false ≡ true) → letter_at w.letters k ≢ I
  some_at k set e =
      let none : letter_of (get_or x k false) (get_or z k false) ≡ I = seen_letter x z negative w k long seen ∙ e in
      ⊎_elim
      (λ (h : get_or x k false ≡ true). has_x (get_or z k false) (ap (λ b. letter_of b (get_or z k false)) (sym h) ∙ none))
      (λ (h : get_or z k false ≡ true). has_z (get_or x k false) (ap (letter_of (get_or x k false)) (sym h) ∙ none))
      set

  pub next_found : (start : ℕ) (found : Option ℕ) → IfNone found ((k : ℕ) → start ≤ k → AreZeroAt k x z)
      → IfSome found (λ i. (start ≤ i) × (i < length x))
      → IfSome found (λ i. (get_or x i false ≡ true) ⊎ (get_or z i false ≡ true))
      → IfSome found (λ i. (k : ℕ) → start ≤ k → k < i → AreZeroAt k x z)
      → IsNextLetter w.letters start found
  next_found start None none within set before = λ k h below. none_at k (none k h)
  next_found start (Some q) none within set before =
      (within.0, omega (arith, within.1, seen_length x z negative w long seen), some_at q set, λ k h below. none_at k (before k h below))
