-- Pairs of equal targets taken out of a sorted list.
use Rattle.std.proofs.Common.{◌≡◌, ◌≢◌, ℕ, ◌+◌, ◌-◌, ◌<◌, ◌≤◌, ◌==◌, Bool, List, length, take, get_or, set, inl, inr, refl, ap, sym, ◌∙◌, arith, length-set, get_or-set_same, get_or-set_other}
use Rattle.std.specs.Prelude.{All}
use Rattle.std.specs.List.Sorted.{IsNonDecreasing}
use Rattle.std.proofs.lemmas.Bool.{cases_eq}
use Rattle.std.proofs.lemmas.List.{take_more, take_more_set}
use Rattle.pauli_word.specs.Parity.{exclusive_or}
use Rattle.pauli_word.proofs.Parities.{exclusive_or_assoc, exclusive_or_self}
use Rattle.step_model.specs.Targets.{is_listed}
use Rattle.record_targets.proofs.OrderLemmas.{listed_pushed}

-- the first i of a list are gone over, and those that are left of them stand in front; the others are as they were
pub record IsCancelled (old new : List ℕ) (i kept : ℕ) : Type 0 where
  pub long : length new ≡ length old
  pub within : kept ≤ i
  pub rises : (k : ℕ) → k + 1 < kept → get_or new k 0 < get_or new (k + 1) 0
  pub last : 0 < kept → (j : ℕ) → i ≤ j → j < length old → get_or new (kept - 1) 0 ≤ get_or old j 0
  pub ahead : (j : ℕ) → i ≤ j → get_or new j 0 ≡ get_or old j 0
  pub odd : (t : ℕ) → is_listed (take kept new) t ≡ is_listed (take i old) t
  pub below : (m : ℕ) → All (λ t. t < m) old → (k : ℕ) → k < kept → get_or new k 0 < m

pub none_gone : (old : List ℕ) → IsCancelled old old 0 0
none_gone old =
    record {
      long = refl;
      within = omega arith;
      rises = λ k lt. absurd (omega (arith, lt));
      last = λ some. absurd (omega (arith, some));
      ahead = λ j low. refl;
      odd = λ t. refl;
      below = λ m all k lt. absurd (omega (arith, lt));
    }

listed_taken : (xs : List ℕ) (i t : ℕ) → i < length xs → is_listed (take (i + 1) xs) t ≡ exclusive_or (get_or xs i 0 == t) (is_listed (take i xs) t)
listed_taken xs i t there = ap (λ l. is_listed l t) (take_more xs i 0 there) ∙ listed_pushed (take i xs) (get_or xs i 0) t

module _ (old new : List ℕ) (i kept : ℕ) (h : IsCancelled old new i kept) (there : i < length old) where
  -- the last one that is left equals the next
  pub both_go : 0 < kept → get_or new (kept - 1) 0 ≡ get_or old i 0 → IsCancelled old new (i + 1) (kept - 1)
  both_go some same =
      record {
        long = h.long;
        within = omega (arith, h.within);
        rises = λ k lt. h.rises k (omega (arith, lt));
        last = λ left j low lt.
            let before : kept - 1 - 1 + 1 ≡ kept - 1 = omega (arith, left) in
            omega (arith, h.rises (kept - 1 - 1) (omega (arith, left)), ap (λ k. get_or new k 0) before, h.last some j (omega (arith, low)) lt);
        ahead = λ j low. h.ahead j (omega (arith, low));
        odd = λ t.
            let front = is_listed (take (kept - 1) new) t in
            let whole : kept - 1 + 1 ≡ kept = omega (arith, some) in
            sym (twice (get_or old i 0 == t) front)
            ∙ (ap (exclusive_or (get_or old i 0 == t)) (ap (λ x. exclusive_or (x == t) front) (sym same) ∙ (sym (listed_taken new (kept - 1) t (omega (arith, h.within, h.long, there))) ∙ (ap (λ n. is_listed (take n new) t) whole ∙ h.odd t)))
            ∙ sym (listed_taken old i t there));
        below = λ m all k lt. h.below m all k (omega (arith, lt));
      }
    where
      twice : (a b : Bool) → exclusive_or a (exclusive_or a b) ≡ b
      twice a b = sym (exclusive_or_assoc a a b) ∙ ap (λ x. exclusive_or x b) (exclusive_or_self a)

  -- else the next one stays
  pub next_stays : IsNonDecreasing old → (0 < kept → get_or new (kept - 1) 0 ≢ get_or old i 0) → IsCancelled old (set new kept (get_or old i 0)) (i + 1) (kept + 1)
  next_stays sorted other =
      record {
        long = length-set new kept next ∙ h.long;
        within = omega (arith, h.within);
        rises = λ k lt. elim (cases_eq (k + 1) kept) as (λ _. get_or more k 0 < get_or more (k + 1) 0) [
          | inl e ↦
              let before : kept - 1 ≡ k = omega (arith, e) in
              omega (arith, stays k (omega (arith, e)), ap (λ j. get_or more j 0) e, here, ap (λ j. get_or new j 0) before, h.last (omega (arith, e)) i (omega arith) there, other (omega (arith, e)))
          | inr ne ↦ omega (arith, stays k (omega (arith, lt)), stays (k + 1) ne, h.rises k (omega (arith, lt, ne)))
        ];
        last = λ some j low lt.
            let place : kept + 1 - 1 ≡ kept = omega arith in
            omega (arith, ap (λ k. get_or more k 0) place, here, sorted i j 0 (omega (arith, low)) lt);
        ahead = λ j low. stays j (omega (arith, low, h.within)) ∙ h.ahead j (omega (arith, low));
        odd = λ t.
            ap (λ l. is_listed l t) (take_more_set new kept next within)
            ∙ (listed_pushed (take kept new) next t
            ∙ (ap (exclusive_or (next == t)) (h.odd t)
            ∙ sym (listed_taken old i t there)));
        below = λ m all k lt. elim (cases_eq k kept) as (λ _. get_or more k 0 < m) [
          | inl e ↦ let low : next < m = all i 0 there in omega (arith, ap (λ j. get_or more j 0) e, here, low)
          | inr ne ↦ omega (arith, stays k ne, h.below m all k (omega (arith, lt, ne)))
        ];
      }
    where
      next : ℕ
      next = get_or old i 0

      more : List ℕ
      more = set new kept next

      within : kept < length new
      within = omega (arith, h.within, h.long, there)

      here : get_or more kept 0 ≡ next
      here = get_or-set_same new kept next 0 within

      stays : (k : ℕ) → k ≢ kept → get_or more k 0 ≡ get_or new k 0
      stays k ne = get_or-set_other new kept k next 0 ne
