-- The significant digits that were read one by one are those of the digits' list.
use Rattle.std.proofs.Common.{◌≡◌, ℕ, suc, ◌+◌, ◌-◌, ◌*◌, ◌/◌, ◌^◌, ◌==◌, ◌<◌, ◌≤◌, Bool, true, false, cond, List, [], ◌∷◌, ◌++◌, length, reverse, Some, refl, ap, sym, ◌∙◌, inl, inr, arith, mul-div_cancel, append_assoc, length-append}
use Rattle.std.specs.Prelude.{if◌then◌else◌, nat_le, nat_lt}
use Rattle.std.specs.List.{prefix_len}
use Rattle.std.proofs.Math.Nat.{one-le-pow}
use Rattle.std.proofs.lemmas.Bool.{cases_Bool, eqb-true, false≢true, leb-true, lt-ltb, ne_eqb}
use Rattle.std.proofs.lemmas.Grind.{fold-append, pow_more}
use Rattle.std.proofs.lemmas.List.{append-nil, reverse-append}
use Rattle.std.proofs.lemmas.List.Folds.{length-prefix_len}
use Rattle.step_model.specs.Probabilities.{Decimal, decimal_bound, digits_value, scaled_bound, trailing_zeros, without_leading_zeros}
use Rattle.stim_lexer.specs.Bytes.{is_empty}
use Rattle.stim_parser.specs.declared.significant.Significant.{Significant}
use Rattle.stim_parser.specs.private.Significant.{more_digits, next_digit, nothing_read}
use Rattle.stim_parser.proofs.DigitLemmas.{next_value}

abbrev is_zero : ℕ → Bool
is_zero d = d == 48

-- what was read is that of a list's digits
record IsReadOf (digits : List ℕ) (s : Significant) : Type 0 where
  length : s.length ≡ length (without_leading_zeros digits)
  zeros : s.zeros ≡ trailing_zeros (without_leading_zeros digits)
  value : s.length - s.zeros ≤ 18 → s.number * 10 ^ s.zeros ≡ digits_value digits

-- ---- one more digit at the end of a list

value-push : (digits : List ℕ) (d : ℕ) → digits_value (digits ++ d ∷ []) ≡ next_value (digits_value digits) d
value-push digits d = fold-append next_value 0 digits (d ∷ [])

leading-cons : (d : ℕ) (digits : List ℕ) → without_leading_zeros (d ∷ digits) ≡ cond (is_zero d) (without_leading_zeros digits) (d ∷ digits)
leading-cons d digits =
    let here : 1 + prefix_len is_zero digits ≡ suc (prefix_len is_zero digits) = omega arith in
    elim (cases_Bool (is_zero d)) [ inl e ↦ rw (e, here) refl | inr e ↦ rw e refl ]

leading-push : (digits : List ℕ) (d : ℕ) → without_leading_zeros (digits ++ d ∷ []) ≡ cond (is_empty (without_leading_zeros digits)) (cond (is_zero d) [] (d ∷ [])) (without_leading_zeros digits ++ d ∷ [])
leading-push [] d = leading-cons d []
leading-push (x ∷ digits) d =
    elim (cases_Bool (is_zero x)) [
      | inl e ↦ rw (leading-cons x (digits ++ d ∷ []), leading-cons x digits, e) (leading-push digits d)
      | inr e ↦ rw (leading-cons x (digits ++ d ∷ []), leading-cons x digits, e) refl
    ]

trailing-is : (digits : List ℕ) → trailing_zeros digits ≡ prefix_len is_zero (reverse digits)
trailing-is digits = length-prefix_len is_zero (reverse digits)

trailing-push : (digits : List ℕ) (d : ℕ) → trailing_zeros (digits ++ d ∷ []) ≡ cond (is_zero d) (1 + trailing_zeros digits) 0
trailing-push digits d =
    rw (trailing-is (digits ++ d ∷ []), trailing-is digits, reverse-append digits (d ∷ [])) refl

-- zeros in front change no value
value-leading : (digits : List ℕ) → digits_value (without_leading_zeros digits) ≡ digits_value digits
value-leading [] = refl
value-leading (d ∷ digits) =
    elim (cases_Bool (is_zero d)) [
      | inl e ↦ let d_is : d ≡ 48 = eqb-true d 48 e in rw (leading-cons d digits, e, d_is) (value-leading digits)
      | inr e ↦ rw (leading-cons d digits, e) refl
    ]

-- ---- one more digit read

empty-is : (digits : List ℕ) (n : ℕ) → n ≡ length digits → (n == 0) ≡ is_empty digits
empty-is [] n e = rw e refl
empty-is (d ∷ digits) n e = rw e (ne_eqb (length (d ∷ digits)) 0 (λ h. absurd (omega arith)))

none-of : (digits : List ℕ) → is_empty digits ≡ true → digits ≡ []
none-of [] h = refl
none-of (d ∷ digits) h = absurd (false≢true h)

next_at : (number power next value d : ℕ) → next ≡ number * (power * 10) + (d - 48) → number * power ≡ value → next * 1 ≡ 10 * value + (d - 48)
next_at number power next value d e h = rw (e, ← h) (omega arith)

zero_at : (number power value d : ℕ) → d ≡ 48 → number * power ≡ value → number * (power * 10) ≡ 10 * value + (d - 48)
zero_at number power value d e h = rw (e, ← h) (omega arith)

-- a zero in front
read_leading : (digits : List ℕ) (s : Significant) (d : ℕ) → IsReadOf digits s → is_zero d ≡ true → is_empty (without_leading_zeros digits) ≡ true → IsReadOf (digits ++ d ∷ []) s
read_leading digits s d r zero none =
    let front : without_leading_zeros (digits ++ d ∷ []) ≡ without_leading_zeros digits =
    leading-push digits d ∙ rw (none, zero) (sym (none-of (without_leading_zeros digits) none)) in
    let nothing : digits_value digits ≡ 0 = sym (value-leading digits) ∙ ap digits_value (none-of (without_leading_zeros digits) none) in
    let d_is : d ≡ 48 = eqb-true d 48 zero in
    record {
      length = r.length ∙ sym (ap (λ (xs : List ℕ). length xs) front);
      zeros = r.zeros ∙ sym (ap trailing_zeros front);
      value = λ le. r.value le ∙ sym (value-push digits d ∙ rw (nothing, d_is) refl);
    }

-- a zero behind other digits
read_trailing : (digits : List ℕ) (s : Significant) (d : ℕ) → IsReadOf digits s → is_zero d ≡ true → is_empty (without_leading_zeros digits) ≡ false
    → IsReadOf (digits ++ d ∷ []) (record { length = s.length + 1; zeros = s.zeros + 1; number = s.number })
read_trailing digits s d r zero some =
    let left = without_leading_zeros digits in
    let front : without_leading_zeros (digits ++ d ∷ []) ≡ left ++ d ∷ [] = leading-push digits d ∙ rw some refl in
    let d_is : d ≡ 48 = eqb-true d 48 zero in
    record {
      length = rw (front, length-append left (d ∷ [])) (omega (arith, r.length));
      zeros = rw (front, trailing-push left d, zero) (omega (arith, r.zeros));
      value = λ le. rw (pow_more, value-push digits d) (zero_at s.number (10 ^ s.zeros) (digits_value digits) d d_is (r.value (omega arith)));
    }

-- another digit
read_digit : (digits : List ℕ) (s : Significant) (d : ℕ) → IsReadOf digits s → is_zero d ≡ false
    → IsReadOf (digits ++ d ∷ []) (record { length = s.length + 1; zeros = 0; number = if nat_lt s.length 18 then s.number * 10 ^ (s.zeros + 1) + (d - 48) else s.number })
read_digit digits s d r other =
    let left = without_leading_zeros digits in
    let front : without_leading_zeros (digits ++ d ∷ []) ≡ left ++ d ∷ [] =
    leading-push digits d
    ∙ elim (cases_Bool (is_empty left)) [
      | inl e ↦ rw (e, other, none-of left e) refl
      | inr e ↦ rw e refl
    ] in
    record {
      length = rw (front, length-append left (d ∷ [])) (omega (arith, r.length));
      zeros = rw (front, trailing-push left d, other) refl;
      value = λ le. let few : s.length < 18 = omega arith in
          let next : (if nat_lt s.length 18 then s.number * 10 ^ (s.zeros + 1) + (d - 48) else s.number) ≡ s.number * (10 ^ s.zeros * 10) + (d - 48) =
          rw (lt-ltb s.length 18 few, pow_more) refl in
          rw (value-push digits d) (next_at s.number (10 ^ s.zeros) _ (digits_value digits) d next (r.value (omega arith)));
    }

read_next : (digits : List ℕ) (s : Significant) (d : ℕ) → IsReadOf digits s → IsReadOf (digits ++ d ∷ []) (next_digit s d)
read_next digits s d r =
    let same = empty-is (without_leading_zeros digits) s.length r.length in
    elim (cases_Bool (is_zero d)) [
      | inl zero ↦
          elim (cases_Bool (is_empty (without_leading_zeros digits))) [
            | inl none ↦ rw (zero, same, none) (read_leading digits s d r zero none)
            | inr some ↦ rw (zero, same, some) (read_trailing digits s d r zero some)
          ]
      | inr other ↦ rw other (read_digit digits s d r other)
    ]

read_all : (more digits : List ℕ) (s : Significant) → IsReadOf digits s → IsReadOf (digits ++ more) (more_digits s more)
read_all [] digits s r = rw (append-nil digits) r
read_all (d ∷ more) digits s r =
    rw (← append_assoc digits (d ∷ []) more) (read_all more (digits ++ d ∷ []) (next_digit s d) (read_next digits s d r))

read_list : (digits : List ℕ) → IsReadOf digits (more_digits nothing_read digits)
read_list digits = read_all digits [] nothing_read (record { length = refl; zeros = refl; value = λ le. refl })

-- ---- the bound

-- a number of more than 18 digits is of no use
same_bound : (count number other up down : ℕ) → (count ≤ 18 → number ≡ other) → scaled_bound count number up down ≡ scaled_bound count other up down
same_bound count number other up down h =
    elim (cases_Bool (nat_le count 18)) [
      | inl e ↦ let same : number ≡ other = h (leb-true count 18 e) in rw same refl
      | inr e ↦ rw e refl
    ]

same_number : (s : Significant) (value : ℕ) → s.number * 10 ^ s.zeros ≡ value → value / 10 ^ s.zeros ≡ s.number
same_number s value h =
    ap (λ v. v / 10 ^ s.zeros) (sym h) ∙ mul-div_cancel s.number (one-le-pow s.zeros 10 (omega arith))

-- the bound of digits that were read, with zeros more or less for the point and the exponent
pub bound-read : (d : Decimal) (s : Significant) (up down : ℕ) → s ≡ more_digits nothing_read d.digits
    → up ≡ s.zeros + (if d.negative then 0 else d.exponent) → down ≡ d.after_point + (if d.negative then d.exponent else 0)
    → decimal_bound d ≡ (if s.length == 0 then Some 0 else scaled_bound (s.length - s.zeros) s.number up down)
bound-read d s up down e up_is down_is =
    let r : IsReadOf d.digits s = rw e (read_list d.digits) in
    let left = without_leading_zeros d.digits in
    let number : s.length - s.zeros ≤ 18 → digits_value left / 10 ^ s.zeros ≡ s.number =
    λ le. ap (λ v. v / 10 ^ s.zeros) (value-leading d.digits) ∙ same_number s (digits_value d.digits) (r.value le) in
    rw (← r.length, ← r.zeros, up_is, down_is)
    (ap (λ b. if s.length == 0 then Some 0 else b) (same_bound (s.length - s.zeros) (digits_value left / 10 ^ s.zeros) s.number _ _ number))
