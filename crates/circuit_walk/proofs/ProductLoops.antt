-- The steps of the loops that go over a product by two targets, on from its first factor and back from its last.
use Rattle.std.proofs.Common.{◌≡◌, ℕ, suc, ◌+◌, ◌-◌, ◌<◌, ◌≤◌, true, false, List, length, get_or, ⊎_elim, arith}
use Rattle.std.proofs.lemmas.Bool.{cases_lt}
use Rattle.stim_parser.specs.declared.target.Target.{Target}
use Rattle.stim_parser.specs.Limits.{are_products}
use Rattle.stim_parser.specs.Products.{is_joining}
use Rattle.circuit_walk.specs.private.InstructionSteps.{product_words}
use Rattle.circuit_walk.proofs.ProductPlaces.{no_star_at, no_star_before, odd_number, place_of, place_within, places_within, star_at_odd}

-- a place behind a factor of a product
pub record IsBehindFactor (targets : List Target) (k end : ℕ) : Type 0 where
  pub factors : ℕ
  pub place : end ≡ place_of targets k + (factors + factors) + 1
  pub within : end ≤ place_of targets (suc k)

pub behind-first : (targets : List Target) (k at : ℕ) → are_products targets ≡ true → at < length targets → at ≡ place_of targets k → IsBehindFactor targets k (at + 1)
behind-first targets k at h l e =
    let odd = odd_number targets k h (place_within targets k (omega (arith, l, e))) in
    record { factors = 0; place = omega (arith, e); within = omega (arith, e, odd.1) }

-- a star there, and a factor behind it
pub behind-step : (targets : List Target) (k end : ℕ) (d : Target) → are_products targets ≡ true → end < length targets → is_joining (get_or targets end d) ≡ true
    → IsBehindFactor targets k end → IsBehindFactor targets k (end + 2)
behind-step targets k end d h l star before =
    let odd = odd_number targets k h (place_within targets k (omega (arith, l, before.place))) in
    ⊎_elim
    (λ (lt : end < place_of targets (suc k)). record {
      factors = before.factors + 1;
      place = omega (arith, before.place);
      within = omega (arith, lt, before.place, odd.1);
    })
    (λ (le : place_of targets (suc k) ≤ end). absurd (let none : is_joining (get_or targets end d) ≡ false = no_star_at targets (suc k) end d h (omega (arith, le, before.within)) l in cc (none, star)))
    (cases_lt end (place_of targets (suc k)))

-- none there: the product ends
pub behind-last : (targets : List Target) (k end : ℕ) (d : Target) → are_products targets ≡ true → (end < length targets → is_joining (get_or targets end d) ≡ false)
    → IsBehindFactor targets k end → end ≡ place_of targets (suc k)
behind-last targets k end d h none behind =
    ⊎_elim
    (λ (lt : end < place_of targets (suc k)). absurd
    (let star : is_joining (get_or targets end d) ≡ true = star_at_odd targets k behind.factors end d h behind.place lt in
    let other : is_joining (get_or targets end d) ≡ false = none (omega (arith, lt, places_within targets (suc k))) in
    cc (star, other)))
    (λ (le : place_of targets (suc k) ≤ end). omega (arith, le, behind.within))
    (cases_lt end (place_of targets (suc k)))

-- the place of a factor of a product
pub record IsAtFactor (targets : List Target) (k start : ℕ) : Type 0 where
  pub factors : ℕ
  pub place : start ≡ place_of targets k + (factors + factors)
  pub within : start < place_of targets (suc k)

pub before-last : (targets : List Target) (k at : ℕ) → are_products targets ≡ true → k < length (product_words targets) → at ≡ place_of targets (suc k) → IsAtFactor targets k (at - 1)
before-last targets k at h l e =
    let odd = odd_number targets k h l in
    record { factors = odd.0; place = omega (arith, e, odd.1); within = omega (arith, e, odd.1) }

-- a star before it, and a factor before that
pub before-step : (targets : List Target) (k start : ℕ) (d : Target) → are_products targets ≡ true → 1 < start → is_joining (get_or targets (start - 1) d) ≡ true
    → IsAtFactor targets k start → IsAtFactor targets k (start - 2)
before-step targets k start d h l star at =
    ⊎_elim
    (λ (lt : 0 < at.factors). record {
      factors = at.factors - 1;
      place = omega (arith, at.place, lt);
      within = omega (arith, at.within);
    })
    (λ (le : at.factors ≤ 0). absurd
    (let none : is_joining (get_or targets (start - 1) d) ≡ false = no_star_before targets k (start - 1) d h (omega (arith, at.place, le, l)) in
    cc (none, star)))
    (cases_lt 0 at.factors)

-- none before it: the product starts
pub before-first : (targets : List Target) (k start : ℕ) (d : Target) → are_products targets ≡ true → (1 < start → is_joining (get_or targets (start - 1) d) ≡ false)
    → IsAtFactor targets k start → start ≡ place_of targets k
before-first targets k start d h none at =
    ⊎_elim
    (λ (lt : 0 < at.factors). absurd
    (let star : is_joining (get_or targets (start - 1) d) ≡ true = star_at_odd targets k (at.factors - 1) (start - 1) d h (omega (arith, at.place, lt)) (omega (arith, at.within)) in
    let other : is_joining (get_or targets (start - 1) d) ≡ false = none (omega (arith, at.place, lt)) in
    cc (star, other)))
    (λ (le : at.factors ≤ 0). omega (arith, at.place, le))
    (cases_lt 0 at.factors)
