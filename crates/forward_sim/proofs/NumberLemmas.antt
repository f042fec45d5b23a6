-- Marks of numbers, set one after another.
use Rattle.std.proofs.Common.{◌≡◌, ◌≢◌, ℕ, ◌<◌, ◌==◌, Bool, true, false, ◌||◌, List, [], ◌∷◌, length, get_or, set, replicate, refl, sym, ap, ◌∙◌, inl, inr, zero, suc, get_or-set_same, get_or-set_other, length-set}
use Rattle.std.proofs.lemmas.Bool.{eq-eqb}
use Rattle.std.proofs.lemmas.Bool.Decides.{eqb_tells}
use Rattle.std.proofs.lemmas.List.{length-replicate}
use Rattle.std.proofs.lemmas.List.FromFn.{fill_by_all}
use Rattle.forward_sim.specs.Lists.{is_among, marks}

-- the marks after these numbers
abbrev pub set_all : List ℕ → List Bool → List Bool
set_all [] ms = ms
set_all (n ∷ ns) ms = set_all ns (set ms n true)

length-set_all : (ns : List ℕ) (ms : List Bool) → length (set_all ns ms) ≡ length ms
length-set_all [] ms = refl
length-set_all (n ∷ ns) ms = length-set_all ns (set ms n true) ∙ length-set ms n true

pub eqb-comm : (a b : ℕ) → (a == b) ≡ (b == a)
eqb-comm a b = elim (eqb_tells a b) [
  | inl p ↦ p.0 ∙ sym (eq-eqb b a (sym p.1))
  | inr p ↦ elim (eqb_tells b a) [ inl q ↦ absurd (p.1 (sym q.1)) | inr q ↦ p.0 ∙ sym q.0 ]
]

or_swap : (a b c : Bool) → (b || (a || c)) ≡ ((a || b) || c)
or_swap true true c = refl
or_swap true false c = refl
or_swap false true c = refl
or_swap false false c = refl

or_false : (a : Bool) → (a || false) ≡ a
or_false true = refl
or_false false = refl

-- a mark that is set
get_or-set-true : (ms : List Bool) (n k : ℕ) → (n ≡ k → n < length ms) → get_or (set ms n true) k false ≡ ((n == k) || get_or ms k false)
get_or-set-true ms n k h = elim (eqb_tells n k) [
  | inl p ↦ let lt : n < length ms = h p.1 in rw p.0 (rw (← p.1) (get_or-set_same ms n true false lt))
  | inr p ↦ let other : k ≢ n = λ e. p.1 (sym e) in rw p.0 (get_or-set_other ms n k true false other)
]

get_or-set_all : (ns : List ℕ) (ms : List Bool) (k : ℕ) → k < length ms → get_or (set_all ns ms) k false ≡ (is_among ns k || get_or ms k false)
get_or-set_all [] ms k h = refl
get_or-set_all (n ∷ ns) ms k h =
    let le : k < length (set ms n true) = rw length-set h in
    get_or-set_all ns (set ms n true) k le
    ∙ (ap (λ x. is_among ns k || x) (get_or-set-true ms n k (λ e. rw e h)) ∙ or_swap (n == k) (is_among ns k) (get_or ms k false))

get_or-replicate-false : (count n : ℕ) → get_or (replicate count false) n false ≡ false
get_or-replicate-false zero n = refl
get_or-replicate-false (suc count) zero = refl
get_or-replicate-false (suc count) (suc n) = get_or-replicate-false count n

pub set_all-marks : (count : ℕ) (ns : List ℕ) → set_all ns (replicate count false) ≡ marks count ns
set_all-marks count ns =
    fill_by_all (is_among ns) (set_all ns (replicate count false)) count false
    (length-set_all ns (replicate count false) ∙ length-replicate count false)
    (λ k h. let lt : k < length (replicate count false) = rw length-replicate h in
    get_or-set_all ns (replicate count false) k lt
    ∙ (ap (λ x. is_among ns k || x) (get_or-replicate-false count k) ∙ or_false (is_among ns k)))
