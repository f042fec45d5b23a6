-- The decimal of a number reads back as that number, and with a sign too.
use Rattle.std.proofs.Common.{◌≡◌, ℕ, suc, ◌+◌, ◌-◌, ◌*◌, ◌/◌, ◌%◌, ◌^◌, ◌==◌, ◌≤◌, ◌<◌, nat_le, true, false, ℤ, pos, negsuc, neg_ℤ, nat_abs, List, [], ◌∷◌, ◌++◌, Some, decimal, refl, ap, subst, ◌∙◌, arith}
use Rattle.std.specs.Char.{is_ascii_digit}
use Rattle.std.specs.Fmt.{signed_decimal}
use Rattle.std.specs.List.{list_all}
use Rattle.std.proofs.lemmas.Bool.{and_from, and_parts, false≢true, le-leb, ne_eqb}
use Rattle.std.proofs.lemmas.Fmt.{decimal_by_steps}
use Rattle.std.proofs.lemmas.List.Sums.{fold-append}
use Rattle.step_model.specs.Probabilities.{digits_value}
use Rattle.stim_lexer.specs.Bytes.{is_empty}
use Rattle.stim_parser.specs.Numbers.{has_minus, magnitude_of, number_of, value_of, whole_value, without_minus}
use Rattle.stim_parser.specs.Coordinates.{is_whole_number}
use Rattle.stim_parser.proofs.ByteLemmas.{both_all}
use Rattle.stim_parser.proofs.WordLemmas.{digits_are_word_bytes, is_word}

-- ---- digits

-- these are the digits of a number
pub record AreDigits (n : ℕ) (text : List ℕ) : Type 0 where
  pub some : is_empty text ≡ false
  pub digits : list_all is_ascii_digit text ≡ true
  pub value : digits_value text ≡ n

digit : (n : ℕ) → n < 10 → is_ascii_digit (48 + n) ≡ true
digit n h =
    let low : nat_le 48 (48 + n) ≡ true = le-leb 48 (48 + n) (omega arith) in
    let high : nat_le (48 + n) 57 ≡ true = le-leb (48 + n) 57 (omega (arith, h)) in rw (low, high) refl

some-append : (xs : List ℕ) (x : ℕ) → is_empty (xs ++ x ∷ []) ≡ false
some-append [] x = refl
some-append (y ∷ xs) x = refl

one_digit : (n : ℕ) → n < 10 → AreDigits n ((48 + n) ∷ [])
one_digit n h =
    record {
      some = refl;
      digits = and_from (is_ascii_digit (48 + n)) true (digit n h) refl;
      value = omega arith;
    }

one_more_digit : (n : ℕ) (ds : List ℕ) → 10 ≤ n → AreDigits (n / 10) ds → AreDigits n (ds ++ (48 + n % 10) ∷ [])
one_more_digit n ds h front =
    record {
      some = some-append ds (48 + n % 10);
      digits = both_all is_ascii_digit ds ((48 + n % 10) ∷ []) front.digits (and_from (is_ascii_digit (48 + n % 10)) true (digit (n % 10) (omega arith)) refl);
      value = fold-append (λ m d. 10 * m + (d - 48)) 0 ds ((48 + n % 10) ∷ []) ∙ (let before = front.value in omega (arith, before));
    }

pub decimal_digits : (n : ℕ) → n < 2 ^ 64 → AreDigits n (decimal n)
decimal_digits n h = decimal_by_steps AreDigits one_digit one_more_digit n h

-- ---- numbers

pub digits_are_word : (n : ℕ) (text : List ℕ) → AreDigits n text → is_word text ≡ true
digits_are_word n text d = let some = d.some in rw some (digits_are_word_bytes text d.digits)

pub value_of-digits : (n : ℕ) (text : List ℕ) → AreDigits n text → n < 1_000_000_000_000_000_000 → value_of text ≡ n
value_of-digits n text d h = let value = d.value in rw value (omega (arith, h))

pub number_of-decimal : (n : ℕ) → n < 1_000_000_000_000_000_000 → number_of (decimal n) ≡ Some n
number_of-decimal n h =
    let d = decimal_digits n (omega (arith, h)) in
    let some = d.some in
    let digits = d.digits in
    let value : value_of (decimal n) ≡ n = value_of-digits n (decimal n) d h in rw (some, digits) (ap Some value)

pub decimal_is_word : (n : ℕ) → n < 1_000_000_000_000_000_000 → is_word (decimal n) ≡ true
decimal_is_word n h = digits_are_word n (decimal n) (decimal_digits n (omega (arith, h)))

-- ---- signed numbers

-- the whole number that a text writes
pub record IsWhole (z : ℤ) (text : List ℕ) : Type 0 where
  pub whole : is_whole_number text ≡ true
  pub magnitude : magnitude_of text ≡ nat_abs z
  pub value : whole_value text ≡ z
  pub word : is_word text ≡ true

-- digits have no minus in front
no_minus : (text : List ℕ) → list_all is_ascii_digit text ≡ true → (has_minus text ≡ false) × (without_minus text ≡ text)
no_minus [] h = (refl, refl)
no_minus (b ∷ text) h =
    let parts = and_parts (is_ascii_digit b) (list_all is_ascii_digit text) h in
    let first = parts.0 in
    let other : (b == 45) ≡ false = ne_eqb b 45 (λ e. absurd (false≢true (subst (λ x. is_ascii_digit x ≡ true) e first))) in
    (other, rw other refl)

pub signed_decimal_is_whole : (z : ℤ) → nat_abs z < 1_000_000_000_000_000_000 → IsWhole z (signed_decimal z)
signed_decimal_is_whole (pos n) h =
    let d = decimal_digits n (omega (arith, h)) in
    let some = d.some in
    let digits = d.digits in
    let sign = no_minus (decimal n) d.digits in
    let none = sign.0 in
    let same = sign.1 in
    let value : value_of (decimal n) ≡ n = value_of-digits n (decimal n) d h in
    record {
      whole = rw (same, some, digits) refl;
      magnitude = rw same value;
      value = rw (none, same) (ap pos value);
      word = decimal_is_word n h;
    }
signed_decimal_is_whole (negsuc n) h =
    let d = decimal_digits (suc n) (omega (arith, h)) in
    let some = d.some in
    let digits = d.digits in
    let value : value_of (decimal (suc n)) ≡ suc n = value_of-digits (suc n) (decimal (suc n)) d h in
    record {
      whole = rw (some, digits) refl;
      magnitude = value;
      value = ap (λ m. neg_ℤ (pos m)) value;
      word = digits_are_word_bytes (decimal (suc n)) d.digits;
    }
