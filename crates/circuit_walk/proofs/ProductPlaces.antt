-- Where products stand among targets: each has an odd number of targets, of which every second is a star, and no star stands
-- at its first place or right before it.
use Rattle.std.proofs.Common.{◌≡◌, ℕ, suc, zero, ◌+◌, ◌<◌, ◌≤◌, true, false, List, [], ◌∷◌, length, take, get_or, refl, ap, ◌∙◌, ⊎_elim, arith}
use Rattle.std.proofs.lemmas.Bool.{cases_lt}
use Rattle.std.proofs.lemmas.List.{take_all}
use Rattle.stim_parser.specs.declared.target.Target.{Target}
use Rattle.stim_parser.specs.declared.target.Target.TheVariants.{Pauli, Star}
use Rattle.stim_parser.specs.Limits.{are_products}
use Rattle.stim_parser.specs.Products.{is_joining}
use Rattle.circuit_walk.specs.private.InstructionSteps.{in_front, product_words, words_length}
use Rattle.circuit_walk.proofs.ProductWords.{words_length-all}

-- the place of a product
abbrev pub place_of : List Target → ℕ → ℕ
place_of targets k = words_length (take k (product_words targets))

-- ---- a factor and a star in front

first_places : (t : Target) (words : List (List Target)) (k : ℕ) → words_length (take (suc k) (in_front t words)) ≡ words_length (take (suc k) words) + 2
first_places t [] zero = refl
first_places t [] (suc k) = refl
first_places t (w ∷ words) k = omega arith

in_front-number : (t : Target) (words : List (List Target)) → 0 < length words → length (in_front t words) ≡ length words
in_front-number t [] h = absurd (omega (arith, h))
in_front-number t (w ∷ words) h = refl

in_front-some : (t : Target) (words : List (List Target)) → 0 < length (in_front t words)
in_front-some t [] = omega arith
in_front-some t (w ∷ words) = omega arith

some_word : (t : Target) (ts : List Target) → 0 < length (product_words (t ∷ ts))
some_word t [] = omega arith
some_word t (Star ∷ ts) = in_front-some t (product_words ts)
some_word t (u ∷ ts) = omega arith

joined-number : (t u : Target) (us : List Target) → length (product_words (t ∷ Star ∷ u ∷ us)) ≡ length (product_words (u ∷ us))
joined-number t u us = in_front-number t (product_words (u ∷ us)) (some_word u us)

joined-places : (t u : Target) (us : List Target) (k : ℕ) → place_of (t ∷ Star ∷ u ∷ us) (suc k) ≡ place_of (u ∷ us) (suc k) + 2
joined-places t u us k = first_places t (product_words (u ∷ us)) k

some_place : (t : Target) (ts : List Target) (k : ℕ) → 0 < place_of (t ∷ ts) (suc k)
some_place t [] k = omega arith
some_place t (Star ∷ ts) k = omega (arith, first_places t (product_words ts) k)
some_place t (u ∷ ts) k = omega arith

-- ---- within the targets

words_length-take : (words : List (List Target)) (k : ℕ) → words_length (take k words) ≤ words_length words
words_length-take words zero = omega arith
words_length-take [] (suc k) = omega arith
words_length-take (w ∷ words) (suc k) = omega (arith, words_length-take words k)

pub places_within : (targets : List Target) (k : ℕ) → place_of targets k ≤ length targets
places_within targets k = omega (arith, words_length-take (product_words targets) k, words_length-all targets)

-- the last of them is behind all
pub places_end : (targets : List Target) (k : ℕ) → length (product_words targets) ≤ k → place_of targets k ≡ length targets
places_end targets k h = ap words_length (take_all k (product_words targets) h) ∙ words_length-all targets

-- a product whose place is within the targets is one of theirs
pub place_within : (targets : List Target) (k : ℕ) → place_of targets k < length targets → k < length (product_words targets)
place_within targets k l =
    ⊎_elim
    (λ (h : k < length (product_words targets)). h)
    (λ (h : length (product_words targets) ≤ k). absurd (omega (arith, l, places_end targets k h)))
    (cases_lt k (length (product_words targets)))

-- ---- stars

-- behind a star there is a factor
pub star_inside : (targets : List Target) (p : ℕ) (d : Target) → are_products targets ≡ true → p < length targets → is_joining (get_or targets p d) ≡ true → p + 1 < length targets
star_inside [] p d h l star = absurd (omega (arith, l))
star_inside (Pauli inverted a q ∷ []) zero d h l star = absurd cc
star_inside (Pauli inverted a q ∷ []) (suc p) d h l star = absurd (omega (arith, l))
star_inside (Pauli inverted a q ∷ Star ∷ []) p d h l star = absurd cc
star_inside (Pauli inverted a q ∷ Star ∷ u ∷ us) zero d h l star = absurd cc
star_inside (Pauli inverted a q ∷ Star ∷ u ∷ us) (suc zero) d h l star = omega arith
star_inside (Pauli inverted a q ∷ Star ∷ u ∷ us) (suc (suc p)) d h l star = omega (arith, star_inside (u ∷ us) p d h (omega (arith, l)) star)
star_inside (Pauli inverted a q ∷ u ∷ us) zero d h l star = absurd cc
star_inside (Pauli inverted a q ∷ u ∷ us) (suc p) d h l star = omega (arith, star_inside (u ∷ us) p d h (omega (arith, l)) star)
star_inside (t ∷ ts) p d h l star = absurd cc

-- a product has an odd number of targets
pub odd_number : (targets : List Target) (k : ℕ) → are_products targets ≡ true → k < length (product_words targets)
    → (m : ℕ) × (place_of targets (suc k) ≡ place_of targets k + (m + m) + 1)
odd_number [] k h l = absurd (omega (arith, l))
odd_number (Pauli inverted a q ∷ []) zero h l = (0, refl)
odd_number (Pauli inverted a q ∷ []) (suc k) h l = absurd (omega (arith, l))
odd_number (Pauli inverted a q ∷ Star ∷ []) k h l = absurd cc
odd_number (Pauli inverted a q ∷ Star ∷ u ∷ us) zero h l =
    let rest = odd_number (u ∷ us) zero h (omega (arith, l, joined-number (Pauli inverted a q) u us)) in
    (suc rest.0, omega (arith, rest.1, joined-places (Pauli inverted a q) u us zero))
odd_number (Pauli inverted a q ∷ Star ∷ u ∷ us) (suc k) h l =
    let rest = odd_number (u ∷ us) (suc k) h (omega (arith, l, joined-number (Pauli inverted a q) u us)) in
    (rest.0, omega (arith, rest.1, joined-places (Pauli inverted a q) u us k, joined-places (Pauli inverted a q) u us (suc k)))
odd_number (Pauli inverted a q ∷ u ∷ us) zero h l = (0, omega arith)
odd_number (Pauli inverted a q ∷ u ∷ us) (suc k) h l =
    let rest = odd_number (u ∷ us) k h (omega (arith, l)) in (rest.0, omega (arith, rest.1))
odd_number (t ∷ ts) k h l = absurd cc

-- so each place is before the next, and within the targets
pub place_later : (targets : List Target) (k : ℕ) → are_products targets ≡ true → k < length (product_words targets) → place_of targets k < place_of targets (suc k)
place_later targets k h l = omega (arith, (odd_number targets k h l).1)

pub place_below : (targets : List Target) (k : ℕ) → are_products targets ≡ true → k < length (product_words targets) → place_of targets k < length targets
place_below targets k h l = omega (arith, place_later targets k h l, places_within targets (suc k))

-- every second of them is a star
pub star_at_odd : (targets : List Target) (k j p : ℕ) (d : Target) → are_products targets ≡ true → p ≡ place_of targets k + (j + j) + 1
    → p < place_of targets (suc k) → is_joining (get_or targets p d) ≡ true
star_at_odd [] k j p d h e l = absurd (omega (arith, l))
star_at_odd (Pauli inverted a q ∷ []) zero j p d h e l = absurd (omega (arith, e, l))
star_at_odd (Pauli inverted a q ∷ []) (suc k) j p d h e l = absurd (omega (arith, e, l))
star_at_odd (Pauli inverted a q ∷ Star ∷ []) k j p d h e l = absurd cc
star_at_odd (Pauli inverted a q ∷ Star ∷ u ∷ us) k j zero d h e l = absurd (omega (arith, e))
star_at_odd (Pauli inverted a q ∷ Star ∷ u ∷ us) k j (suc zero) d h e l = refl
star_at_odd (Pauli inverted a q ∷ Star ∷ u ∷ us) zero zero (suc (suc p)) d h e l = absurd (omega (arith, e))
star_at_odd (Pauli inverted a q ∷ Star ∷ u ∷ us) zero (suc j) (suc (suc p)) d h e l =
    star_at_odd (u ∷ us) zero j p d h (omega (arith, e)) (omega (arith, l, joined-places (Pauli inverted a q) u us zero))
star_at_odd (Pauli inverted a q ∷ Star ∷ u ∷ us) (suc k) j (suc (suc p)) d h e l =
    star_at_odd (u ∷ us) (suc k) j p d h (omega (arith, e, joined-places (Pauli inverted a q) u us k)) (omega (arith, l, joined-places (Pauli inverted a q) u us (suc k)))
star_at_odd (Pauli inverted a q ∷ u ∷ us) k j zero d h e l = absurd (omega (arith, e))
star_at_odd (Pauli inverted a q ∷ u ∷ us) zero j (suc p) d h e l = absurd (omega (arith, l))
star_at_odd (Pauli inverted a q ∷ u ∷ us) (suc k) j (suc p) d h e l = star_at_odd (u ∷ us) k j p d h (omega (arith, e)) (omega (arith, l))
star_at_odd (t ∷ ts) k j p d h e l = absurd cc

-- its first is none
pub no_star_at : (targets : List Target) (k p : ℕ) (d : Target) → are_products targets ≡ true → p ≡ place_of targets k → p < length targets → is_joining (get_or targets p d) ≡ false
no_star_at [] k p d h e l = absurd (omega (arith, l))
no_star_at (Pauli inverted a q ∷ []) k zero d h e l = refl
no_star_at (Pauli inverted a q ∷ []) k (suc p) d h e l = absurd (omega (arith, l))
no_star_at (Pauli inverted a q ∷ Star ∷ []) k p d h e l = absurd cc
no_star_at (Pauli inverted a q ∷ Star ∷ u ∷ us) k zero d h e l = refl
no_star_at (Pauli inverted a q ∷ Star ∷ u ∷ us) zero (suc p) d h e l = absurd (omega (arith, e))
no_star_at (Pauli inverted a q ∷ Star ∷ u ∷ us) (suc k) (suc zero) d h e l = absurd (omega (arith, e, joined-places (Pauli inverted a q) u us k))
no_star_at (Pauli inverted a q ∷ Star ∷ u ∷ us) (suc k) (suc (suc p)) d h e l =
    no_star_at (u ∷ us) (suc k) p d h (omega (arith, e, joined-places (Pauli inverted a q) u us k)) (omega (arith, l))
no_star_at (Pauli inverted a q ∷ u ∷ us) k zero d h e l = refl
no_star_at (Pauli inverted a q ∷ u ∷ us) zero (suc p) d h e l = absurd (omega (arith, e))
no_star_at (Pauli inverted a q ∷ u ∷ us) (suc k) (suc p) d h e l = no_star_at (u ∷ us) k p d h (omega (arith, e)) (omega (arith, l))
no_star_at (t ∷ ts) k p d h e l = absurd cc

-- and so is the one before it, a factor of the product before
pub no_star_before : (targets : List Target) (k p : ℕ) (d : Target) → are_products targets ≡ true → p + 1 ≡ place_of targets k → is_joining (get_or targets p d) ≡ false
no_star_before [] k p d h e = absurd (omega (arith, e, places_within [] k))
no_star_before (Pauli inverted a q ∷ []) k zero d h e = refl
no_star_before (Pauli inverted a q ∷ []) k (suc p) d h e = absurd (omega (arith, e, places_within (Pauli inverted a q ∷ []) k))
no_star_before (Pauli inverted a q ∷ Star ∷ []) k p d h e = absurd cc
no_star_before (Pauli inverted a q ∷ Star ∷ u ∷ us) k zero d h e = refl
no_star_before (Pauli inverted a q ∷ Star ∷ u ∷ us) zero (suc p) d h e = absurd (omega (arith, e))
no_star_before (Pauli inverted a q ∷ Star ∷ u ∷ us) (suc k) (suc zero) d h e =
    absurd (omega (arith, e, joined-places (Pauli inverted a q) u us k, some_place u us k))
no_star_before (Pauli inverted a q ∷ Star ∷ u ∷ us) (suc k) (suc (suc p)) d h e =
    no_star_before (u ∷ us) (suc k) p d h (omega (arith, e, joined-places (Pauli inverted a q) u us k))
no_star_before (Pauli inverted a q ∷ u ∷ us) k zero d h e = refl
no_star_before (Pauli inverted a q ∷ u ∷ us) zero (suc p) d h e = absurd (omega (arith, e))
no_star_before (Pauli inverted a q ∷ u ∷ us) (suc k) (suc p) d h e = no_star_before (u ∷ us) k p d h (omega (arith, e))
no_star_before (t ∷ ts) k p d h e = absurd cc
