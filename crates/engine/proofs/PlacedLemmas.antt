-- The lowest target with a place: there is none where no target has one, and it is the one below which none has.
use Rattle.std.proofs.Common.{◌≡◌, ◌<◌, ◌≤◌, ◌+◌, ◌⊎◌, inl, inr, ℕ, zero, suc, refl, ap, ◌∙◌, arith, length}
use Rattle.std.specs.Prelude.{None, Some}
use Rattle.std.proofs.Math.Nat.{eq-or-lt_of_le}
use Rattle.std.specs.List.{range_with_len}
use Rattle.step_model.specs.declared.step.Place.{Place}
use Rattle.step_model.specs.Listing.{Listing}
use Rattle.step_model.specs.Sensitivities.{place_of}
use Rattle.step_model.specs.Targets.{targets_of}
use Rattle.engine.specs.Findings.{placed_or, first_placed, lowest_placed}

none_from : (program : Listing) (a n : ℕ) → ((d : ℕ) → d < a + n → place_of program d ≡ None) → first_placed program (range_with_len a n) ≡ None
none_from program a zero h = refl
none_from program a (suc n) h =
    ap (λ place. placed_or place a (first_placed program (range_with_len (a + 1) n))) (h a (omega arith))
    ∙ none_from program (a + 1) n (λ d lt. h d (omega (arith, lt)))

pub lowest_placed-none : (program : Listing) → ((d : ℕ) → d < length (targets_of program) → place_of program d ≡ None) → lowest_placed program ≡ None
lowest_placed-none program h = none_from program 0 (length (targets_of program)) (λ d lt. h d (omega (arith, lt)))

-- the first of a range is the one, or it has no place
at_first : (program : Listing) (which : ℕ) (place : Place) (a n : ℕ) → place_of program which ≡ Some place → ((d : ℕ) → d < which → place_of program d ≡ None)
    → (a + 1 ≤ which → which < a + 1 + n → first_placed program (range_with_len (a + 1) n) ≡ Some (which, place))
    → (a ≡ which) ⊎ (a < which) → which < a + suc n → first_placed program (range_with_len a (suc n)) ≡ Some (which, place)
at_first program which place a n here before later (inl e) lt =
    ap (λ p. placed_or p a (first_placed program (range_with_len (a + 1) n))) (ap (place_of program) e ∙ here)
    ∙ ap (λ d. Some (d, place)) e
at_first program which place a n here before later (inr less) lt =
    ap (λ p. placed_or p a (first_placed program (range_with_len (a + 1) n))) (before a less)
    ∙ later (omega (arith, less)) (omega (arith, lt))

some_from : (program : Listing) (which : ℕ) (place : Place) (a n : ℕ) → a ≤ which → which < a + n → place_of program which ≡ Some place
    → ((d : ℕ) → d < which → place_of program d ≡ None) → first_placed program (range_with_len a n) ≡ Some (which, place)
some_from program which place a zero le lt here before = absurd (omega (arith, le, lt))
some_from program which place a (suc n) le lt here before =
    at_first program which place a n here before (λ le' lt'. some_from program which place (a + 1) n le' lt' here before) (eq-or-lt_of_le le) lt

pub lowest_placed-some : (program : Listing) (which : ℕ) (place : Place) → which < length (targets_of program) → place_of program which ≡ Some place
    → ((d : ℕ) → d < which → place_of program d ≡ None) → lowest_placed program ≡ Some (which, place)
lowest_placed-some program which place lt here before =
    some_from program which place 0 (length (targets_of program)) (omega arith) (omega (arith, lt)) here before
