-- The text of an accepted probability is a word: digits, at most one point, and an exponent with its sign.
use Rattle.std.proofs.Common.{◌≡◌, ℕ, suc, ◌+◌, ◌==◌, Bool, true, false, ◌&&◌, if◌then◌else◌, nat_le, List, [], ◌∷◌, length, Option, None, Some, is_some, refl, inl, inr, arith}
use Rattle.std.specs.Prelude.{option_and_then}
use Rattle.std.specs.Char.{is_ascii_digit}
use Rattle.std.specs.List.{list_all, prefix_len}
use Rattle.std.proofs.lemmas.Bool.{and_from, and_parts, cases_Bool, false≢true}
use Rattle.step_model.specs.Probabilities.{after_digits, after_fraction, decimal_bound, decimal_of, exponent_amount, exponent_part, is_exponent, probability_bound, signed_exponent}
use Rattle.stim_parser.proofs.WordLemmas.{digit_is_word_byte, digits_are_word_bytes, is_word, is_word_byte}

-- ---- the exponent

amount_bytes : (negative : Bool) (text : List ℕ) → is_some (exponent_amount negative text) ≡ true → list_all is_word_byte text ≡ true
amount_bytes negative text h =
    elim (cases_Bool (is_exponent text)) [
      | inl e ↦
          digits_are_word_bytes text (and_parts (nat_le 1 (length text) && nat_le (length text) 3) (list_all is_ascii_digit text) e).1
      | inr e ↦ absurd (false≢true (rw e at h))
    ]

sign_or_mark : (b c : ℕ) → is_word_byte c ≡ true → (b == c) ≡ true → is_word_byte b ≡ true
sign_or_mark b c known e = grind (arith)

signed_bytes : (text : List ℕ) → is_some (signed_exponent text) ≡ true → list_all is_word_byte text ≡ true
signed_bytes [] h = absurd (false≢true h)
signed_bytes (b ∷ text) h =
    elim (cases_Bool (b == 45)) [
      | inl minus ↦
          and_from (is_word_byte b) (list_all is_word_byte text) (sign_or_mark b 45 refl minus) (amount_bytes true text (rw minus at h))
      | inr other ↦
          elim (cases_Bool (b == 43)) [
            | inl plus ↦
                and_from (is_word_byte b) (list_all is_word_byte text) (sign_or_mark b 43 refl plus) (amount_bytes false text (rw (other, plus) at h))
            | inr digit ↦ amount_bytes false (b ∷ text) (rw (other, digit) at h)
          ]
    ]

exponent_bytes : (text : List ℕ) → is_some (exponent_part text) ≡ true → list_all is_word_byte text ≡ true
exponent_bytes [] h = refl
exponent_bytes (b ∷ text) h =
    elim (cases_Bool (b == 101)) [
      | inl small ↦
          and_from (is_word_byte b) (list_all is_word_byte text) (sign_or_mark b 101 refl small) (signed_bytes text (rw small at h))
      | inr other ↦
          elim (cases_Bool (b == 69)) [
            | inl large ↦
                and_from (is_word_byte b) (list_all is_word_byte text) (sign_or_mark b 69 refl large) (signed_bytes text (rw (other, large) at h))
            | inr none ↦ absurd (false≢true (rw (other, none) at h))
          ]
    ]

-- ---- the digits before it

digits_bytes : (text : List ℕ) → list_all is_word_byte (after_digits text) ≡ true → list_all is_word_byte text ≡ true
digits_bytes [] h = refl
digits_bytes (b ∷ text) h =
    let here : 1 + prefix_len is_ascii_digit text ≡ suc (prefix_len is_ascii_digit text) = omega arith in
    elim (cases_Bool (is_ascii_digit b)) [
      | inl digit ↦
          and_from (is_word_byte b) (list_all is_word_byte text) (digit_is_word_byte b digit) (digits_bytes text (rw (digit, here) at h))
      | inr other ↦ rw other at h
    ]

fraction_bytes : (text : List ℕ) → list_all is_word_byte (after_fraction text) ≡ true → list_all is_word_byte text ≡ true
fraction_bytes [] h = refl
fraction_bytes (b ∷ text) h =
    elim (cases_Bool (b == 46)) [
      | inl point ↦
          and_from (is_word_byte b) (list_all is_word_byte text) (sign_or_mark b 46 refl point) (digits_bytes text (rw point at h))
      | inr other ↦ rw other at h
    ]

-- ---- the whole text

some_first : {X Y : Type 0} (f : X → Option Y) (o : Option X) → is_some (option_and_then f o) ≡ true → is_some o ≡ true
some_first f None h = h
some_first f (Some x) h = refl

some_behind : {X : Type 0} (b : Bool) (o : Option X) → is_some (if b then None else o) ≡ true → is_some o ≡ true
some_behind true o h = absurd (false≢true h)
some_behind false o h = h

pub bytes_of_decimal : (text : List ℕ) → is_some (decimal_of text) ≡ true → list_all is_word_byte text ≡ true
bytes_of_decimal text h =
    digits_bytes text
    (fraction_bytes (after_digits text)
    (exponent_bytes (after_fraction (after_digits text)) (some_first _ (exponent_part (after_fraction (after_digits text))) (some_behind _ _ h))))

pub accepted_is_word : (text : List ℕ) → is_some (probability_bound text) ≡ true → is_word text ≡ true
accepted_is_word [] h = absurd (false≢true h)
accepted_is_word (b ∷ text) h = bytes_of_decimal (b ∷ text) (some_first decimal_bound (decimal_of (b ∷ text)) h)
