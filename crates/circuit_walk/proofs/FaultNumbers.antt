-- The number of a fault is how many faults stand before its step.
use Rattle.std.proofs.Common.{◌≡◌, ℕ, ◌+◌, ◌<◌, List, [], ◌∷◌, ◌++◌, length, get_or, take, drop, Some, refl, sym, ap, ◌∙◌, append_assoc, arith}
use Rattle.std.specs.Prelude.{slice_get}
use Rattle.std.specs.List.{range_with_len}
use Rattle.std.proofs.Math.Seq.{get_or-append_seam}
use Rattle.std.proofs.lemmas.List.{drop_more, length-append, take-append-drop, take_all}
use Rattle.std.proofs.lemmas.List.FromFn.{get_or-range_with_len, length-range_with_len}
use Rattle.std.proofs.lemmas.Option.{get_or_from_slice_get, slice_get_within}
use Rattle.step_model.specs.Listing.{Listing, ListedStep}
use Rattle.step_model.specs.WellFormed.{IsWellFormed, faults_named, step_faults}
use Rattle.circuit_walk.specs.Walks.{faults_before}
use Rattle.circuit_walk.proofs.PlaceCounts.{taken}

named_apart : (xs ys : List ListedStep) → faults_named (xs ++ ys) ≡ faults_named xs ++ faults_named ys
named_apart [] ys = refl
named_apart (x ∷ xs) ys =
    ap (λ fs. step_faults x ++ fs) (named_apart xs ys)
    ∙ sym (append_assoc (step_faults x) (faults_named xs) (faults_named ys))

-- a step names the first faults of those that it and the later ones name
left_at : (steps : List ListedStep) (place : ℕ) (step : ListedStep) → slice_get steps place ≡ Some step → faults_named (drop place steps) ≡ step_faults step ++ faults_named (drop (place + 1) steps)
left_at steps place step at =
    ap faults_named
    (drop_more steps place step (slice_get_within steps place step at)
    ∙ ap (λ s. s ∷ drop (place + 1) steps) (get_or_from_slice_get steps place step step at))

module _ (program : Listing) (k : ℕ) (step : ListedStep) (at : slice_get program.steps k ≡ Some step) where
  module _ (n : ℕ) (has : step_faults step ≡ n ∷ []) where
    -- a step with a fault
    pub number_is : IsWellFormed program → n ≡ faults_before program.steps k
    number_is fits =
        let steps = program.steps in
        let before = faults_named (take k steps) in
        let rest = faults_named (drop (k + 1) steps) in
        let all : before ++ n ∷ rest ≡ range_with_len 0 (length program.faults) =
        ap (λ fs. before ++ fs) (ap (λ fs. fs ++ rest) (sym has) ∙ sym (left_at steps k step at))
        ∙ (sym (named_apart (take k steps) (drop k steps))
        ∙ (ap faults_named (take-append-drop k steps) ∙ fits.faults_in_order)) in
        let below : length before < length program.faults =
        omega (arith, ap length all, length-append before (n ∷ rest), length-range_with_len 0 (length program.faults)) in
        let first : 0 + length before ≡ length before = omega arith in
        sym (get_or-append_seam before n rest 0)
        ∙ (ap (λ fs. get_or fs (length before) 0) all
        ∙ (get_or-range_with_len 0 (length program.faults) (length before) 0 below ∙ first))

    pub one_more : IsWellFormed program → n + 1 ≡ faults_before program.steps (k + 1)
    one_more fits = omega (arith, number_is fits, (taken program.steps k step at).faults, ap length has)

  -- and one without
  pub none_more : step_faults step ≡ [] → faults_before program.steps k ≡ faults_before program.steps (k + 1)
  none_more none = omega (arith, (taken program.steps k step at).faults, ap length none)

-- behind the last step all faults are
pub all_before : (program : Listing) → IsWellFormed program → faults_before program.steps (length program.steps) ≡ length program.faults
all_before program fits =
    ap (λ steps. length (faults_named steps)) (take_all (length program.steps) program.steps (omega arith))
    ∙ (ap length fits.faults_in_order ∙ length-range_with_len 0 (length program.faults))
