-- Which target is random, from what was found going back over all steps.
use Rattle.std.proofs.Common.{◌≡◌, ℕ, ◌+◌, ◌<◌, List, [], ◌∷◌, length, get_or, Option, None, Some, refl, ap, ap₂, sym, ◌∙◌, arith}
use Rattle.std.specs.Prelude.{option_map, IfNone, IfSome}
use Rattle.std.proofs.lemmas.List.{get_or-replicate}
use Rattle.std.proofs.lemmas.List.FromFn.{get_or-map-range_with_len}
use Rattle.pauli_word.specs.declared.letter.Letter.{Letter}
use Rattle.step_model.specs.declared.step.Place.{Place}
use Rattle.step_model.specs.Listing.{Listing}
use Rattle.step_model.specs.Sensitivities.{place_of, after_or_start, latest_place, lowest_X_or_Y}
use Rattle.step_model.specs.Targets.{targets_of, target_at}
use Rattle.step_model.specs.WellFormed.{IsWellFormed, collapse_count}
use Rattle.backward.specs.private.Passes.{latest_before, lowest_below, opened}
use Rattle.record_targets.specs.ListingSets.{sensitivity_before}
use Rattle.backward.specs.Places.{place_from, NoneIsRandom, IsLowestRandom}
use Rattle.backward.proofs.PassPlaces.{lowest_below-all}

from_start : (o : Option ℕ) (w : List Letter) → place_from (option_map (λ k. 0 + k) o) (lowest_X_or_Y w) ≡ after_or_start o w
from_start None w = refl
from_start (Some k) w = let e : 0 + k ≡ k = omega arith in ap (λ j. place_from (Some j) (lowest_X_or_Y w)) e

-- what is noted for a target
opened_at : (n : ℕ) (list : List (Option ℕ)) (d : ℕ) → d < n → get_or list d None ≡ get_or (opened n list) d None
opened_at n [] d lt = sym (get_or-replicate n d None None lt)
opened_at n (o ∷ list) d lt = refl

-- no collapse is left before the first step
pub none_left : (program : Listing) (left : ℕ) → IsWellFormed program → left + collapse_count program.steps ≡ program.collapses → left ≡ 0
none_left program left fits h = omega (arith, h, fits.collapses_counted)

pub place_found : (program : Listing) (left : ℕ) (latest lowest : List (Option ℕ)) (d : ℕ) → IsWellFormed program → left ≡ 0 → opened (length (targets_of program)) latest ≡ latest_before program left program.steps → opened (length (targets_of program)) lowest ≡ lowest_below program program.qubits → d < length (targets_of program)
    → place_from (get_or latest d None) (get_or lowest d None) ≡ place_of program d
place_found program left latest lowest d fits none is_latest is_lowest lt =
    ap₂ place_from
    (opened_at (length (targets_of program)) latest d lt
    ∙ (ap (λ (l : List (Option ℕ)). get_or l d None) is_latest
    ∙ (get_or-map-range_with_len (λ d. option_map (λ k. left + k) (latest_place program.qubits (target_at program d) program.steps)) 0 (length (targets_of program)) d d None lt (omega arith)
    ∙ ap (λ n. option_map (λ k. n + k) (latest_place program.qubits (target_at program d) program.steps)) none)))
    (opened_at (length (targets_of program)) lowest d lt ∙ (ap (λ (l : List (Option ℕ)). get_or l d None) is_lowest ∙ lowest_below-all program d fits.steps_fit lt))
    ∙ from_start (latest_place program.qubits (target_at program d) program.steps) (sensitivity_before program program.steps d).word

pub random_found : (program : Listing) (left : ℕ) (latest lowest : List (Option ℕ)) (which : ℕ) (place : Place) → IsWellFormed program → left ≡ 0 → opened (length (targets_of program)) latest ≡ latest_before program left program.steps → opened (length (targets_of program)) lowest ≡ lowest_below program program.qubits
    → which < length (targets_of program) → place_from (get_or latest which None) (get_or lowest which None) ≡ Some place
    → ((d : ℕ) → d < which → place_from (get_or latest d None) (get_or lowest d None) ≡ None) → IsLowestRandom program which place
random_found program left latest lowest which place fits none is_latest is_lowest lt here before =
    record {
      in_range = lt;
      has_place = sym (place_found program left latest lowest which fits none is_latest is_lowest lt) ∙ here;
      lowest = λ d below. sym (place_found program left latest lowest d fits none is_latest is_lowest (omega (arith, below, lt))) ∙ before d below;
    }

pub none_found : (program : Listing) (left : ℕ) (latest lowest : List (Option ℕ)) → IsWellFormed program → left ≡ 0 → opened (length (targets_of program)) latest ≡ latest_before program left program.steps → opened (length (targets_of program)) lowest ≡ lowest_below program program.qubits
    → ((d : ℕ) → d < length (targets_of program) → place_from (get_or latest d None) (get_or lowest d None) ≡ None) → NoneIsRandom program
none_found program left latest lowest fits none is_latest is_lowest nowhere d lt =
    sym (place_found program left latest lowest d fits none is_latest is_lowest lt) ∙ nowhere d lt

-- by cases on what is found
pub none_weaker : {X : Type 0} (o : Option X) (P Q : Type 0) → (P → Q) → IfNone o P → IfNone o Q
none_weaker None P Q f h = f h
none_weaker (Some x) P Q f h = tt

pub some_weaker : {X : Type 0} (o : Option X) (P Q R : X → Type 0) → ((x : X) → P x → Q x → R x) → IfSome o P → IfSome o Q → IfSome o R
some_weaker None P Q R f p q = tt
some_weaker (Some x) P Q R f p q = f x p q

pub some_both : {X : Type 0} (o : Option X) (P Q : X → Type 0) → IfSome o P → IfSome o Q → IfSome o (λ x. P x × Q x)
some_both None P Q p q = tt
some_both (Some x) P Q p q = (p, q)
