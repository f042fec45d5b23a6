-- The digits of a number and of the next one.
use Rattle.std.proofs.Common.{◌≡◌, ℕ, suc, inl, inr, ◌+◌, ◌-◌, ◌<◌, ◌≤◌, ◌/◌, ◌%◌, ◌^◌, List, [], ◌∷◌, ◌++◌, length, get_or, take, set, sym, ap, ap₂, ◌∙◌, arith, append_assoc}
use Rattle.std.specs.Prelude.{decimal}
use Rattle.std.proofs.lemmas.Bool.Decides.{leb_tells}
use Rattle.std.proofs.lemmas.Fmt.{decimal_digit, decimal_step}
use Rattle.std.proofs.lemmas.List.{length_push, same_from_push, take_more, take_more_set}
use Rattle.step_model.proofs.LastDigits.{last_rises}
use Rattle.fault_list.specs.private.KeptTexts.{HasDigits, IsCounted}

pub counts_up : (n before last : ℕ) (bytes : List ℕ) → n < 2 ^ 32 → IsCounted n before last bytes → last < 57 → IsCounted (n + 1) before (last + 1) bytes
counts_up n before last bytes small has low = record { within = has.within; digits = last_rises n (take before bytes) last small has.digits low }

-- a nine becomes a zero where the digit before it isn't nine
tens_count : (n : ℕ) (ds : List ℕ) (d e : ℕ) → n < 2 ^ 32 → ds ++ d ∷ [] ++ e ∷ [] ≡ decimal n → d < 57 → 57 ≤ e → ds ++ (d + 1) ∷ [] ++ 48 ∷ [] ≡ decimal (n + 1)
tens_count n ds d e small is low nine = elim (leb_tells (suc n) 10) [
  | inl one ↦
      let parts = same_from_push (ds ++ d ∷ []) [] e (48 + n) (is ∙ decimal_digit n (omega (arith, one.1))) in
      absurd (omega (arith, ap length parts.0, length_push ds d))
  | inr more ↦
      let parts = same_from_push (ds ++ d ∷ []) (decimal (n / 10)) e (48 + n % 10) (is ∙ decimal_step n (omega (arith, more.1)) (omega (arith, small))) in
      let tens : n / 10 + 1 ≡ (n + 1) / 10 = omega (arith, parts.1, nine) in
      let last : 48 ≡ 48 + (n + 1) % 10 = omega (arith, parts.1, nine) in
      ap₂ (λ l f. l ++ f ∷ []) (last_rises (n / 10) ds d (omega (arith, small)) parts.0 low ∙ ap decimal tens) last
      ∙ sym (decimal_step (n + 1) (omega (arith, more.1)) (omega (arith, small)))
]

pub tens_count_up : (n before last : ℕ) (bytes : List ℕ) → n < 2 ^ 32 → length bytes ≡ 16 → IsCounted n before last bytes → 0 < before → get_or bytes (before - 1) 0 < 57 → 57 ≤ last
    → IsCounted (n + 1) before 48 (set bytes (before - 1) (get_or bytes (before - 1) 0 + 1))
tens_count_up n before last bytes small long has two low nine =
    let j = before - 1 in
    let y = get_or bytes j 0 + 1 in
    let whole : before ≡ j + 1 = omega (arith, two) in
    let inside : j < length bytes = omega (arith, long, has.within, two) in
    let start : take before bytes ≡ take j bytes ++ get_or bytes j 0 ∷ [] = ap (λ k. take k bytes) whole ∙ take_more bytes j 0 inside in
    record {
      within = has.within;
      digits =
          ap (λ l. l ++ 48 ∷ []) (ap (λ k. take k (set bytes j y)) whole ∙ take_more_set bytes j y inside)
          ∙ tens_count n (take j bytes) (get_or bytes j 0) last small (ap (λ l. l ++ last ∷ []) (sym start) ∙ has.digits) low nine;
    }

-- the digits that were made
pub counted : (n len : ℕ) (bytes : List ℕ) → length bytes ≡ 16 → HasDigits n len bytes → IsCounted n (len - 1) (get_or bytes (len - 1) 0) bytes
counted n len bytes long has =
    let i = len - 1 in
    let whole : i + 1 ≡ len = omega (arith, has.some) in
    record {
      within = omega (arith, has.within);
      digits = sym (take_more bytes i 0 (omega (arith, long, has.within, has.some))) ∙ (ap (λ k. take k bytes) whole ∙ has.digits);
    }

-- a number that was put: the digits before the last one, and then that
pub number_put : (n before last at end after : ℕ) (bytes old middle new : List ℕ) → IsCounted n before last bytes → take end middle ≡ take at old ++ take before bytes
    → take after new ≡ take end middle ++ last ∷ [] → take after new ≡ take at old ++ decimal n
number_put n before last at end after bytes old middle new has front back =
    back ∙ (ap (λ l. l ++ last ∷ []) front ∙ (append_assoc (take at old) (take before bytes) (last ∷ []) ∙ ap (λ l. take at old ++ l) has.digits))
