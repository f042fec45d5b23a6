-- Digits at the front of a text, and the numbers that digits write.
use Rattle.std.proofs.Common.{◌≡◌, ℕ, suc, ◌+◌, ◌-◌, ◌*◌, ◌^◌, ◌==◌, ◌<◌, ◌≤◌, Bool, true, false, not, cond, ltb, List, [], ◌∷◌, length, take, take_all, length-take, None, Some, refl, ap, sym, ◌∙◌, inl, inr, arith, pow-suc, mul-le-mul_right}
use Rattle.std.specs.Prelude.{position, unwrap_or, min, fold}
use Rattle.std.specs.Char.{is_ascii_digit}
use Rattle.std.specs.List.{list_all, prefix_len, position_or_len}
use Rattle.std.proofs.Math.Nat.{pow-le-pow_right}
use Rattle.std.proofs.lemmas.Bool.{and_parts, both_ways, cases_Bool, false≢true, le-leb, ltb-false}
use Rattle.std.proofs.lemmas.List.Sums.{prefix_len-le-length}
use Rattle.step_model.specs.Probabilities.{digits_value, exponent_amount, front_digits}
use Rattle.stim_parser.specs.Numbers.{is_number, number_of, value_of}

-- ---- digits at the front

digits_or_none : (text : List ℕ) → position_or_len (λ b. not (is_ascii_digit b)) text ≡ prefix_len is_ascii_digit text
digits_or_none [] = refl
digits_or_none (b ∷ text) =
    elim (cases_Bool (is_ascii_digit b)) [ inl e ↦ rw (e, digits_or_none text) refl | inr e ↦ rw e refl ]

place_or : (n m : ℕ) → n ≤ m → unwrap_or (cond (ltb n m) (Some n) None) m ≡ n
place_or n m le = elim (cases_Bool (ltb n m)) [ inl e ↦ rw e refl | inr e ↦ rw e (let h = ltb-false n m e in omega arith) ]

-- where the digits at the front end
pub digits_end : (text : List ℕ) → unwrap_or (position (λ b. not (is_ascii_digit b)) text) (length text) ≡ prefix_len is_ascii_digit text
digits_end text =
    let le : position_or_len (λ b. not (is_ascii_digit b)) text ≤ length text = prefix_len-le-length (λ b. not (not (is_ascii_digit b))) text in
    place_or (position_or_len (λ b. not (is_ascii_digit b)) text) (length text) le ∙ digits_or_none text

pub front_digits-all : (text : List ℕ) → list_all is_ascii_digit (front_digits text) ≡ true
front_digits-all [] = refl
front_digits-all (b ∷ text) =
    let here : 1 + prefix_len is_ascii_digit text ≡ suc (prefix_len is_ascii_digit text) = omega arith in
    elim (cases_Bool (is_ascii_digit b)) [ inl e ↦ rw (e, here, e) (front_digits-all text) | inr e ↦ rw e refl ]

-- ---- one of digits

pub digit_small : (d : ℕ) → is_ascii_digit d ≡ true → d < 58
digit_small d h = grind arith

pub is_number-digits : (text : List ℕ) (b : Bool) → b ≡ (length text == 0) → b ≡ false → is_number text ≡ list_all is_ascii_digit text
is_number-digits [] b e h = absurd (both_ways b h e)
is_number-digits (d ∷ text) b e h = refl

-- ---- values

abbrev pub next_value : ℕ → ℕ → ℕ
next_value n d = 10 * n + (d - 48)

pub fold_below : (digits : List ℕ) (a : ℕ) → list_all is_ascii_digit digits ≡ true → fold next_value a digits < (a + 1) * 10 ^ length digits
fold_below [] a h = omega arith
fold_below (d ∷ digits) a h =
    let parts = and_parts (is_ascii_digit d) (list_all is_ascii_digit digits) h in
    let small = digit_small d parts.0 in
    let rest = fold_below digits (next_value a d) parts.1 in
    let le : next_value a d + 1 ≤ (a + 1) * 10 = omega arith in
    rw pow-suc (omega (arith, rest, mul-le-mul_right (10 ^ length digits) le))

pub digits_value-below : (digits : List ℕ) → list_all is_ascii_digit digits ≡ true → digits_value digits < 10 ^ length digits
digits_value-below digits h = omega (arith, fold_below digits 0 h)

-- a number that passed a limit stays beyond it
min_next : (v w b k : ℕ) → min v b ≡ min w b → min (10 * v + k) b ≡ min (10 * w + k) b
min_next v w b k h = omega arith

pub min-fold : (digits : List ℕ) (v w b : ℕ) → min v b ≡ min w b → min (fold next_value v digits) b ≡ min (fold next_value w digits) b
min-fold [] v w b h = h
min-fold (d ∷ digits) v w b h = min-fold digits (next_value v d) (next_value w d) b (min_next v w b (d - 48) h)

pub min-twice : (v b : ℕ) → min (min v b) b ≡ min v b
min-twice v b = omega arith

pub power_at_most : (n m : ℕ) → n ≤ m → 10 ^ n ≤ 10 ^ m
power_at_most n m le = pow-le-pow_right {n = 10} (omega arith) le

-- ---- exponents

pub exponent-small : (text : List ℕ) → length text ≤ 3 → is_number text ≡ true → digits_value text < 1000
exponent-small [] few h = absurd (false≢true h)
exponent-small (d ∷ text) few h =
    omega (arith, digits_value-below (d ∷ text) h, power_at_most (length (d ∷ text)) 3 few)

pub value_of-small : (text : List ℕ) → digits_value text < 1000 → value_of text ≡ digits_value text
value_of-small text h = omega arith

pub exponent_amount-is : (negative : Bool) (text : List ℕ) → length text ≤ 3 → is_number text ≡ true → exponent_amount negative text ≡ Some (negative, digits_value text)
exponent_amount-is negative [] few h = absurd (false≢true h)
exponent_amount-is negative (d ∷ text) few h =
    let some : 1 ≤ length (d ∷ text) = omega arith in
    rw (le-leb 1 (length (d ∷ text)) some, le-leb (length (d ∷ text)) 3 few, h) refl

-- ---- short numbers

pub front-below : (text : List ℕ) (i v : ℕ) → i < length text → length text ≤ 18 → v ≡ fold next_value 0 (take i text) → list_all is_ascii_digit (take i text) ≡ true → v < 10 ^ 17
front-below text i v lt short value digits =
    let few : length (take i text) ≤ 17 = omega (arith, length-take i text) in
    omega (arith, value, digits_value-below (take i text) digits, power_at_most (length (take i text)) 17 few)

pub short_number : (text : List ℕ) (v : ℕ) → 0 < length text → length text ≤ 18 → v ≡ digits_value text → list_all is_ascii_digit text ≡ true → Some v ≡ number_of text
short_number [] v some short value digits = absurd (omega arith)
short_number (d ∷ text) v some short value digits =
    let small = digits_value-below (d ∷ text) digits in
    let limit = power_at_most (length (d ∷ text)) 18 short in
    let whole : v ≡ value_of (d ∷ text) = omega (arith, value, small, limit) in
    rw digits (ap Some whole)

pub whole_number : (text : List ℕ) (i v : ℕ) → 0 < length text → length text ≤ 18 → length text ≤ i → v ≡ fold next_value 0 (take i text) → list_all is_ascii_digit (take i text) ≡ true → Some v ≡ number_of text
whole_number text i v some short end value digits =
    let all : take i text ≡ text = take_all i text end in
    short_number text v some short (value ∙ ap (fold next_value 0) all) (ap (list_all is_ascii_digit) (sym all) ∙ digits)
