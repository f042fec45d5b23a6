-- A product that is gone over with a set of the qubits that it has named: what is asked of each factor's rest is asked of
-- each factor and the set.
use Rattle.std.proofs.Common.{◌≡◌, ℕ, Bool, true, false, not, ◌&&◌, ◌||◌, eqb, List, [], ◌∷◌, refl, sym, ap, ◌∙◌, ⊎_elim}
use Rattle.std.proofs.lemmas.Bool.{cases_eq, eq-eqb, ne_eqb}
use Rattle.stim_parser.specs.declared.target.Target.{Target}
use Rattle.stim_parser.specs.declared.target.Target.TheVariants.{Plain, Inverted, Back, Pauli, Star}
use Rattle.stim_parser.specs.Products.{goes_on_with, goes_on_within, has_product_of_one, is_factor_at, is_factor_within, is_joining, names_again}

eqb_sym : (a b : ℕ) → eqb a b ≡ eqb b a
eqb_sym a b =
    ⊎_elim
    (λ (e : a ≡ b). eq-eqb a b e ∙ sym (eq-eqb b a (sym e)))
    (λ (ne : a ≡ b → ⊥). ne_eqb a b ne ∙ sym (ne_eqb b a (λ e. ne (sym e))))
    (cases_eq a b)

-- (a && (x || g)) || (a && (y || h)) is a && ((x || y) || (g || h))
both : (a x y g h : Bool) → (a && ((x || y) || (g || h))) ≡ ((a && (x || g)) || (a && (y || h)))
both false x y g h = refl
both true true y g h = refl
both true false true true h = refl
both true false true false h = refl
both true false false g h = refl

within-same : (has more : ℕ → Bool) → ((q : ℕ) → more q ≡ has q) → (target : Target) → is_factor_within more target ≡ is_factor_within has target
within-same has more same (Pauli inverted l q) = same q
within-same has more same target = refl

goes_on-same : (has more : ℕ → Bool) → ((q : ℕ) → more q ≡ has q) → (targets : List Target) → goes_on_within more targets ≡ goes_on_within has targets
goes_on-same has more same [] = refl
goes_on-same has more same (a ∷ []) = refl
goes_on-same has more same (a ∷ b ∷ rest) =
    ap (λ t. is_joining a && (t || goes_on_within more rest)) (within-same has more same b)
    ∙ ap (λ t. is_joining a && (is_factor_within has b || t)) (goes_on-same has more same rest)

within-more : (has more : ℕ → Bool) (p : ℕ) → ((q : ℕ) → more q ≡ (eqb q p || has q)) → (target : Target)
    → is_factor_within more target ≡ (is_factor_at p target || is_factor_within has target)
within-more has more p one (Pauli inverted l q) = one q ∙ ap (λ b. b || has q) (eqb_sym q p)
within-more has more p one target = refl

goes_on-one : (has more : ℕ → Bool) (p : ℕ) → ((q : ℕ) → more q ≡ (eqb q p || has q)) → (targets : List Target)
    → goes_on_within more targets ≡ (goes_on_with p targets || goes_on_within has targets)
goes_on-one has more p one [] = refl
goes_on-one has more p one (a ∷ []) = refl
goes_on-one has more p one (a ∷ b ∷ rest) =
    ap (λ t. is_joining a && (t || goes_on_within more rest)) (within-more has more p one b)
    ∙ ap (λ t. is_joining a && ((is_factor_at p b || is_factor_within has b) || t)) (goes_on-one has more p one rest)
    ∙ both (is_joining a) (is_factor_at p b) (is_factor_within has b) (goes_on_with p rest) (goes_on_within has rest)

-- one factor put into the set
goes_on-more : (has more : ℕ → Bool) (factor : Target) → ((q : ℕ) → more q ≡ (is_factor_at q factor || has q)) → (targets : List Target)
    → goes_on_within more targets ≡ (names_again factor targets || goes_on_within has targets)
goes_on-more has more (Pauli inverted l p) one targets = goes_on-one has more p one targets
goes_on-more has more factor same targets = goes_on-same has more same targets

within-none : (has : ℕ → Bool) → ((q : ℕ) → has q ≡ false) → (target : Target) → is_factor_within has target ≡ false
within-none has none (Pauli inverted l q) = none q
within-none has none target = refl

and_false : (a : Bool) → (a && false) ≡ false
and_false true = refl
and_false false = refl

or_false : (a : Bool) → (a || false) ≡ a
or_false true = refl
or_false false = refl

goes_on-none : (has : ℕ → Bool) → ((q : ℕ) → has q ≡ false) → (targets : List Target) → goes_on_within has targets ≡ false
goes_on-none has none [] = refl
goes_on-none has none (a ∷ []) = refl
goes_on-none has none (a ∷ b ∷ rest) =
    ap (λ t. is_joining a && (t || goes_on_within has rest)) (within-none has none b)
    ∙ ap (λ t. is_joining a && t) (goes_on-none has none rest)
    ∙ and_false (is_joining a)

-- a set that has nothing, and then the first factor of a product
pub product-begins : (has more : ℕ → Bool) (factor : Target) (rest : List Target) → ((q : ℕ) → has q ≡ false)
    → ((q : ℕ) → more q ≡ (is_factor_at q factor || has q))
    → (goes_on_within more rest || has_product_of_one rest) ≡ has_product_of_one (factor ∷ rest)
product-begins has more factor rest none one =
    ap (λ t. t || has_product_of_one rest)
    (goes_on-more has more factor one rest ∙ ap (λ t. names_again factor rest || t) (goes_on-none has none rest) ∙ or_false (names_again factor rest))

either : (n g h : Bool) → ((n || g) || h) ≡ (g || (n || h))
either true true h = refl
either true false h = refl
either false g h = refl

-- a further factor, which the set hasn't
pub product-goes_on : (has more : ℕ → Bool) (a b : Target) (rest : List Target) → is_joining a ≡ true → is_factor_within has b ≡ false
    → ((q : ℕ) → more q ≡ (is_factor_at q b || has q))
    → (goes_on_within more rest || has_product_of_one rest) ≡ (goes_on_within has (a ∷ b ∷ rest) || has_product_of_one (a ∷ b ∷ rest))
product-goes_on has more Star b rest e new one =
    ap (λ t. t || has_product_of_one rest) (goes_on-more has more b one rest)
    ∙ either (names_again b rest) (goes_on_within has rest) (has_product_of_one rest)
    ∙ sym (ap (λ t. (t || goes_on_within has rest) || (names_again b rest || has_product_of_one rest)) new)
product-goes_on has more (Plain n) b rest e new one = absurd cc
product-goes_on has more (Inverted n) b rest e new one = absurd cc
product-goes_on has more (Back n) b rest e new one = absurd cc
product-goes_on has more (Pauli inverted l n) b rest e new one = absurd cc

-- ---- the steps of the loops

-- a qubit is named by the set or by what is left of the product
pub named-step : (q : ℕ) (a b : Target) (rest : List Target) (has more all : Bool) → is_joining a ≡ true → more ≡ (is_factor_at q b || has)
    → (goes_on_with q (a ∷ b ∷ rest) || has) ≡ all → (goes_on_with q rest || more) ≡ all
named-step q a b rest has more all e one before =
    ap (λ t. goes_on_with q rest || t) one
    ∙ later (is_factor_at q b) (goes_on_with q rest) has
    ∙ sym (ap (λ j. (j && (is_factor_at q b || goes_on_with q rest)) || has) e)
    ∙ before
  where
    later : (f g h : Bool) → (g || (f || h)) ≡ ((f || g) || h)
    later true true h = refl
    later true false h = refl
    later false g h = refl

-- a qubit of the set that what is left of the product doesn't name
pub unnamed-step : (q : ℕ) (a b : Target) (rest : List Target) (has less all : Bool) → is_joining a ≡ true → less ≡ (not (is_factor_at q b) && has)
    → (not (goes_on_with q (a ∷ b ∷ rest)) && has) ≡ all → (not (goes_on_with q rest) && less) ≡ all
unnamed-step q a b rest has less all e one before =
    ap (λ t. not (goes_on_with q rest) && t) one
    ∙ later (is_factor_at q b) (goes_on_with q rest) has
    ∙ sym (ap (λ j. not (j && (is_factor_at q b || goes_on_with q rest)) && has) e)
    ∙ before
  where
    later : (f g h : Bool) → (not g && (not f && h)) ≡ (not (f || g) && h)
    later true true h = refl
    later true false h = refl
    later false g h = refl

-- what was put in and is taken out again
pub taken_out : (f g has put over back out : Bool) → has ≡ false → put ≡ (f || has) → over ≡ (g || put) → back ≡ (not g && over)
    → out ≡ (not f && back) → out ≡ false
taken_out f g has put over back out h p o b e =
    e ∙ ap (λ t. not f && t) (b ∙ ap (λ t. not g && t) (o ∙ ap (λ t. g || t) (p ∙ ap (λ t. f || t) h))) ∙ gone f g
  where
    gone : (f g : Bool) → (not f && (not g && (g || (f || false)))) ≡ false
    gone true g = refl
    gone false true = refl
    gone false false = refl
