-- The end of the line of a detector and of the detector before it.
use Rattle.std.proofs.Common.{◌≡◌, ℕ, ◌+◌, ◌-◌, ◌<◌, ◌^◌, List, [], ◌∷◌, ◌++◌, length, get_or, drop, set, sym, ap, ap₂, ◌∙◌, arith, append_assoc, length-append, length-drop}
use Rattle.std.proofs.Math.Seq.{get_or-append_seam, set-append_seam}
use Rattle.std.proofs.lemmas.List.{drop-set-add, get_or-drop}
use Rattle.error_models.specs.private.DetectorEnds.{HasEnd}
use Rattle.step_model.proofs.LastDigits.{Digits, digits_of, last_falls}

-- where the last digit stands
record IsLast (n len : ℕ) (bytes front : List ℕ) (last : ℕ) : Type 0 where
  whole : drop (16 - len) bytes ≡ (32 ∷ 68 ∷ front) ++ last ∷ 10 ∷ []
  place : 14 ≡ 16 - len + length (32 ∷ 68 ∷ front)
  read : get_or bytes 14 0 ≡ last

is_last : (n len : ℕ) (bytes : List ℕ) (digits : Digits n) → length bytes ≡ 16 → HasEnd n len bytes → IsLast n len bytes digits.front digits.last
is_last n len bytes digits long has =
    let k = 16 - len in
    let front = 32 ∷ 68 ∷ digits.front in
    let whole : drop k bytes ≡ front ++ digits.last ∷ 10 ∷ [] =
    has.text
    ∙ ap (λ l. 32 ∷ 68 ∷ (l ++ 10 ∷ [])) (sym digits.whole)
    ∙ ap (λ l. 32 ∷ 68 ∷ l) (append_assoc digits.front (digits.last ∷ []) (10 ∷ [])) in
    let place : 14 ≡ k + length front = omega (arith, long, has.within, ap length whole, length-drop k bytes, length-append front (digits.last ∷ 10 ∷ [])) in
    record {
      whole = whole;
      place = place;
      read =
          ap (λ i. get_or bytes i 0) place
          ∙ sym (get_or-drop k bytes (length front) 0)
          ∙ ap (λ l. get_or l (length front) 0) whole
          ∙ get_or-append_seam front digits.last (10 ∷ []) 0;
    }

pub record CountsDown (n len : ℕ) (bytes : List ℕ) : Type 0 where
  pub some : 0 < n
  pub end : HasEnd (n - 1) len (set bytes 14 (get_or bytes 14 0 - 1))

pub counts_down : (n len : ℕ) (bytes : List ℕ) → n < 2 ^ 32 → length bytes ≡ 16 → HasEnd n len bytes → 48 < get_or bytes 14 0 → CountsDown n len bytes
counts_down n len bytes small long has high =
    let digits = digits_of n small in
    let k = 16 - len in
    let front = 32 ∷ 68 ∷ digits.front in
    let here = is_last n len bytes digits long has in
    let falls = last_falls n digits.front digits.last small digits.whole (omega (arith, high, here.read)) in
    let v = get_or bytes 14 0 - 1 in
    record {
      some = falls.some;
      end = record {
        within = has.within;
        text =
            ap (λ i. drop k (set bytes i v)) here.place
            ∙ drop-set-add k bytes (length front) v
            ∙ ap₂ (λ l x. set l (length front) (x - 1)) here.whole here.read
            ∙ set-append_seam front digits.last (10 ∷ []) (digits.last - 1)
            ∙ ap (λ l. 32 ∷ 68 ∷ l) (sym (append_assoc digits.front ((digits.last - 1) ∷ []) (10 ∷ [])))
            ∙ ap (λ l. 32 ∷ 68 ∷ (l ++ 10 ∷ [])) falls.digits;
      };
    }
