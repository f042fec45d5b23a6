-- The last digit of a number, and of the numbers before and after it.
use Rattle.std.proofs.Common.{◌≡◌, ℕ, suc, inl, inr, ◌+◌, ◌-◌, ◌<◌, ◌/◌, ◌%◌, ◌^◌, List, [], ◌∷◌, ◌++◌, length, get_or, drop, set, sym, ap, ap₂, ◌∙◌, arith, append_assoc, length-append, length-drop}
use Rattle.std.specs.Prelude.{decimal}
use Rattle.std.proofs.Math.Seq.{get_or-append_seam, set-append_seam}
use Rattle.std.proofs.lemmas.Bool.Decides.{leb_tells}
use Rattle.std.proofs.lemmas.Fmt.{decimal_digit, decimal_step}
use Rattle.std.proofs.lemmas.List.{drop-set-add, get_or-drop, same_from_push}

-- the digits of a number, the last of them apart
pub record Digits (n : ℕ) : Type 0 where
  pub front : List ℕ
  pub last : ℕ
  pub whole : front ++ last ∷ [] ≡ decimal n

pub digits_of : (n : ℕ) → n < 2 ^ 32 → Digits n
digits_of n small = elim (leb_tells (suc n) 10) [
  | inl one ↦ record { front = []; last = 48 + n; whole = sym (decimal_digit n (omega (arith, one.1))) }
  | inr more ↦ record { front = decimal (n / 10); last = 48 + n % 10; whole = sym (decimal_step n (omega (arith, more.1)) (omega (arith, small))) }
]

-- a last digit that isn't nought becomes that of the number before
pub record Falls (n : ℕ) (ds : List ℕ) (d : ℕ) : Type 0 where
  pub some : 0 < n
  pub digits : ds ++ (d - 1) ∷ [] ≡ decimal (n - 1)

pub last_falls : (n : ℕ) (ds : List ℕ) (d : ℕ) → n < 2 ^ 32 → ds ++ d ∷ [] ≡ decimal n → 48 < d → Falls n ds d
last_falls n ds d small is high = elim (leb_tells (suc n) 10) [
  | inl one ↦
      let parts = same_from_push ds [] d (48 + n) (is ∙ decimal_digit n (omega (arith, one.1))) in
      let next : d - 1 ≡ 48 + (n - 1) = omega (arith, parts.1, high) in
      record {
        some = omega (arith, parts.1, high);
        digits = ap₂ (λ l e. l ++ e ∷ []) parts.0 next ∙ sym (decimal_digit (n - 1) (omega (arith, one.1)));
      }
  | inr more ↦
      let parts = same_from_push ds (decimal (n / 10)) d (48 + n % 10) (is ∙ decimal_step n (omega (arith, more.1)) (omega (arith, small))) in
      let same : n / 10 ≡ (n - 1) / 10 = omega (arith, parts.1, high) in
      let next : d - 1 ≡ 48 + (n - 1) % 10 = omega (arith, parts.1, high) in
      record {
        some = omega (arith, more.1);
        digits = ap₂ (λ l e. l ++ e ∷ []) (parts.0 ∙ ap decimal same) next ∙ sym (decimal_step (n - 1) (omega (arith, more.1, parts.1, high)) (omega (arith, small)));
      }
]

-- a last digit that isn't nine becomes that of the number after
pub last_rises : (n : ℕ) (ds : List ℕ) (d : ℕ) → n < 2 ^ 32 → ds ++ d ∷ [] ≡ decimal n → d < 57 → ds ++ (d + 1) ∷ [] ≡ decimal (n + 1)
last_rises n ds d small is low = elim (leb_tells (suc n) 10) [
  | inl one ↦
      let parts = same_from_push ds [] d (48 + n) (is ∙ decimal_digit n (omega (arith, one.1))) in
      let next : d + 1 ≡ 48 + (n + 1) = omega (arith, parts.1) in
      ap₂ (λ l e. l ++ e ∷ []) parts.0 next ∙ sym (decimal_digit (n + 1) (omega (arith, parts.1, low)))
  | inr more ↦
      let parts = same_from_push ds (decimal (n / 10)) d (48 + n % 10) (is ∙ decimal_step n (omega (arith, more.1)) (omega (arith, small))) in
      let same : n / 10 ≡ (n + 1) / 10 = omega (arith, parts.1, low) in
      let next : d + 1 ≡ 48 + (n + 1) % 10 = omega (arith, parts.1, low) in
      ap₂ (λ l e. l ++ e ∷ []) (parts.0 ∙ ap decimal same) next ∙ sym (decimal_step (n + 1) (omega (arith, more.1)) (omega (arith, small)))
]

-- the same of a number at the end of eight bytes, behind some text
pub rises_at_end : (n k : ℕ) (bytes head : List ℕ) → n < 2 ^ 32 → length bytes ≡ 8 → drop k bytes ≡ head ++ decimal n → get_or bytes 7 0 < 57
    → drop k (set bytes 7 (get_or bytes 7 0 + 1)) ≡ head ++ decimal (n + 1)
rises_at_end n k bytes head small long is low =
    let digits = digits_of n small in
    let front = head ++ digits.front in
    let whole : drop k bytes ≡ front ++ digits.last ∷ [] =
    is ∙ ap (λ l. head ++ l) (sym digits.whole) ∙ sym (append_assoc head digits.front (digits.last ∷ [])) in
    let place : 7 ≡ k + length front = omega (arith, long, ap length whole, length-drop k bytes, length-append front (digits.last ∷ [])) in
    let read : get_or bytes 7 0 ≡ digits.last =
    ap (λ i. get_or bytes i 0) place
    ∙ sym (get_or-drop k bytes (length front) 0)
    ∙ ap (λ l. get_or l (length front) 0) whole
    ∙ get_or-append_seam front digits.last [] 0 in
    ap (λ i. drop k (set bytes i (get_or bytes 7 0 + 1))) place
    ∙ drop-set-add k bytes (length front) (get_or bytes 7 0 + 1)
    ∙ ap₂ (λ l x. set l (length front) (x + 1)) whole read
    ∙ set-append_seam front digits.last [] (digits.last + 1)
    ∙ append_assoc head digits.front ((digits.last + 1) ∷ [])
    ∙ ap (λ l. head ++ l) (last_rises n digits.front digits.last small digits.whole (omega (arith, low, read)))
