-- The steps of the loops that go over a product by two targets, a star and a factor.
use Rattle.std.proofs.Common.{◌≡◌, ℕ, ◌-◌, ◌≤◌, Bool, true, false, not, ◌&&◌, ◌||◌, List, [], ◌∷◌, length, take, drop, get_or, refl, sym, ap, ap₂, ◌∙◌, arith}
use Rattle.std.proofs.lemmas.Bool.{or_parts}
use Rattle.std.proofs.lemmas.List.{take_rest}
use Rattle.stim_parser.specs.declared.forms.TargetForm.TheVariants.{Products}
use Rattle.stim_parser.specs.declared.target.Target.{Target}
use Rattle.stim_parser.specs.Limits.{has_target_beyond, is_target_beyond}
use Rattle.stim_parser.specs.Products.{goes_on_with, goes_on_within, has_product_of_one, is_factor_at, is_factor_within, is_joining}
use Rattle.stim_parser.proofs.ProductLemmas.{named-step, product-begins, product-goes_on, taken_out, unnamed-step}

-- ---- a list cut behind its first targets

pub cut_one : (xs : List Target) (a : Target) → 1 ≤ length xs → a ≡ get_or xs 0 a → xs ≡ a ∷ take (length xs - 1) (drop 1 xs)
cut_one [] a h first = absurd (omega arith)
cut_one (c ∷ rest) a h first =
    ap (λ (x : Target). x ∷ rest) (sym first) ∙ sym (ap (λ (t : List Target). a ∷ t) (take_rest (c ∷ rest) 1))

pub cut_two : (xs : List Target) (a b : Target) → 2 ≤ length xs → a ≡ get_or xs 0 a → b ≡ get_or xs 1 b → xs ≡ a ∷ b ∷ take (length xs - 2) (drop 2 xs)
cut_two [] a b h first second = absurd (omega arith)
cut_two (c ∷ []) a b h first second = absurd (omega arith)
cut_two (c ∷ d ∷ rest) a b h first second =
    ap₂ (λ (x y : Target). x ∷ y ∷ rest) (sym first) (sym second)
    ∙ sym (ap (λ (t : List Target). a ∷ b ∷ t) (take_rest (c ∷ d ∷ rest) 2))

-- ---- limits of targets

pub beyond-first : (a : Target) (rest left : List Target) → left ≡ a ∷ rest → has_target_beyond Products left ≡ false
    → (is_target_beyond Products a ≡ false) × (has_target_beyond Products rest ≡ false)
unfolding has_target_beyond
beyond-first a rest left cut none =
    or_parts (is_target_beyond Products a) (has_target_beyond Products rest) (sym (ap (has_target_beyond Products) cut) ∙ none)

pub beyond-second : (a b : Target) (rest left : List Target) → left ≡ a ∷ b ∷ rest → has_target_beyond Products left ≡ false
    → (is_target_beyond Products b ≡ false) × (has_target_beyond Products rest ≡ false)
beyond-second a b rest left cut none = beyond-first b rest (b ∷ rest) refl (beyond-first a (b ∷ rest) left cut none).1

-- ---- over a product

abbrev pub IsOver : (has initial : ℕ → Bool) (left targets : List Target) → Type 0
IsOver has initial left targets =
    (has_target_beyond Products left ≡ false)
    × ((goes_on_within has left || has_product_of_one left) ≡ (goes_on_within initial targets || has_product_of_one targets))
    × ((q : ℕ) → (goes_on_with q left || has q) ≡ (goes_on_with q targets || initial q))
    × (length left ≤ length targets)

-- a further factor
pub over-step : (has more initial : ℕ → Bool) (a b : Target) (rest left targets : List Target) → left ≡ a ∷ b ∷ rest → is_joining a ≡ true
    → is_factor_within has b ≡ false → ((q : ℕ) → more q ≡ (is_factor_at q b || has q)) → IsOver has initial left targets → IsOver more initial rest targets
over-step has more initial a b rest left targets cut joins new one over =
    let less : length left ≡ length (a ∷ b ∷ rest) = ap length cut in (
      (beyond-second a b rest left cut over.0).1,
      product-goes_on has more a b rest joins new one
          ∙ sym (ap (λ xs. goes_on_within has xs || has_product_of_one xs) cut)
          ∙ over.1,
      λ q. named-step q a b rest (has q) (more q) (goes_on_with q targets || initial q) joins (one q) (sym (ap (λ xs. goes_on_with q xs || has q) cut) ∙ over.2 q),
      omega (arith, less, over.3),
    )

-- ---- back over a product

abbrev pub IsBack : (has initial : ℕ → Bool) (left targets : List Target) → Type 0
IsBack has initial left targets =
    (has_target_beyond Products left ≡ false)
    × ((q : ℕ) → (not (goes_on_with q left) && has q) ≡ (not (goes_on_with q targets) && initial q))

pub back-step : (has less initial : ℕ → Bool) (a b : Target) (rest left targets : List Target) → left ≡ a ∷ b ∷ rest → is_joining a ≡ true
    → ((q : ℕ) → less q ≡ (not (is_factor_at q b) && has q)) → IsBack has initial left targets → IsBack less initial rest targets
back-step has less initial a b rest left targets cut joins one back = (
  (beyond-second a b rest left cut back.0).1,
  λ q. unnamed-step q a b rest (has q) (less q) (not (goes_on_with q targets) && initial q) joins (one q) (sym (ap (λ xs. not (goes_on_with q xs) && has q) cut) ∙ back.1 q),
)

-- ---- product after product

abbrev pub IsBetween : (has : ℕ → Bool) (left targets : List Target) → Type 0
IsBetween has left targets =
    (has_target_beyond Products left ≡ false)
    × (has_product_of_one left ≡ has_product_of_one targets)
    × ((q : ℕ) → has q ≡ false)

-- the answer for a product that names one qubit twice
pub between-again : (has more : ℕ → Bool) (a : Target) (rest left targets : List Target) → left ≡ a ∷ rest
    → ((q : ℕ) → more q ≡ (is_factor_at q a || has q)) → (goes_on_within more rest || has_product_of_one rest) ≡ true
    → IsBetween has left targets → true ≡ has_product_of_one targets
between-again has more a rest left targets cut one again between =
    sym again ∙ product-begins has more a rest between.2 one ∙ sym (ap has_product_of_one cut) ∙ between.1

-- the next product, with a set that has nothing again
pub between-step : (has put over back out : ℕ → Bool) (a : Target) (rest left after targets : List Target) → left ≡ a ∷ rest
    → ((q : ℕ) → put q ≡ (is_factor_at q a || has q))
    → (goes_on_within put rest || has_product_of_one rest) ≡ has_product_of_one after
    → ((q : ℕ) → over q ≡ (goes_on_with q rest || put q))
    → has_target_beyond Products after ≡ false
    → ((q : ℕ) → back q ≡ (not (goes_on_with q rest) && over q))
    → ((q : ℕ) → out q ≡ (not (is_factor_at q a) && back q))
    → IsBetween has left targets → IsBetween out after targets
between-step has put over back out a rest left after targets cut one asked named within returned taken between = (
  within,
  sym asked ∙ product-begins has put a rest between.2 one ∙ sym (ap has_product_of_one cut) ∙ between.1,
  λ q. taken_out (is_factor_at q a) (goes_on_with q rest) (has q) (put q) (over q) (back q) (out q) (between.2 q) (one q) (named q) (returned q) (taken q),
)
