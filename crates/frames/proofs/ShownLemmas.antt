-- Words filled one after another, and what their lanes then show.
use Rattle.std.proofs.Common.{◌≡◌, ℕ, ◌+◌, ◌<◌, ◌≤◌, Bool, false, List, [], length, refl, get_or, set, sym, ap, subst, ◌∙◌, arith, ⊎_elim, get_or-set_same, get_or-set_other, length-append}
use Rattle.std.proofs.lemmas.Bool.{cases_lt}
use Rattle.std.proofs.lemmas.List.{ext_get_or, get_or-map, length-map}
use Rattle.rand_pcg.specs.Lcg.{Lcg}
use Rattle.forward_sim.proofs.Differences.{differences-map}
use Rattle.forward_sim.proofs.RunRecords.{length-records_of}
use Rattle.step_model.specs.Frames.{zero_coins}
use Rattle.step_model.specs.Listing.{Listing}
use Rattle.step_model.specs.Runs.{records_of}
use Rattle.step_model.specs.Targets.{difference, parity, targets_of}
use Rattle.step_model.specs.WellFormed.{IsWellFormed}
use Rattle.bit_rows.specs.Lanes.{lane, lane_bit}
use Rattle.frames.specs.declared.side_runs.Shown.{Shown}
use Rattle.frames.specs.declared.side_runs.Shown.TheVariants.{Records, Detections}
use Rattle.frames.specs.Lines.{line_of}
use Rattle.frames.specs.Sampled.{shot_coins, shot_faults}
use Rattle.frames.specs.Shown.{shown_line}
use Rattle.frames.specs.private.ShownRuns.{shown_count, shown_of}

-- one word more
pub filled_more : (Is : ℕ → ℕ → Type 0) (words : List ℕ) (at word : ℕ) → at < length words
    → ((i : ℕ) → i < at → Is i (get_or words i 0)) → Is at word
    → (i : ℕ) → i < at + 1 → Is i (get_or (set words at word) i 0)
filled_more Is words at word within before here i below =
    ⊎_elim
    (λ (m : i < at). subst (Is i) (sym (get_or-set_other words at i word 0 (λ e. omega arith))) (before i m))
    (λ (m : at ≤ i).
    let e : at ≡ i = omega arith in
    subst (λ k. Is k (get_or (set words at word) k 0)) e (subst (Is at) (sym (get_or-set_same words at word 0 within)) here))
    (cases_lt i at)

-- a lane, truth value by truth value
pub lane_shows : (j : ℕ) (words : List ℕ) (values : List Bool) → length words ≡ length values
    → ((i : ℕ) → i < length words → lane_bit j (get_or words i 0) ≡ get_or values i false) → lane j words ≡ values
lane_shows j words values size same =
    ext_get_or false (lane j words) values (length-map words (lane_bit j) ∙ size)
    (λ i below.
    let within : i < length words = omega (arith, below, length-map words (lane_bit j)) in
    get_or-map (lane_bit j) words i 0 false within ∙ same i within)

-- a truth value for each target
length-difference : (program : Listing) (first second : List Bool)
    → length (difference program first second) ≡ length program.detectors + length program.observables
length-difference program first second =
    ap length (differences-map (λ t. parity t first) (λ t. parity t second) (targets_of program))
    ∙ (length-map (targets_of program) _
    ∙ length-append program.detectors program.observables)

-- as many truth values as are shown
pub length-shown : (shown : Shown) (program : Listing) (faults coins : List Bool) → IsWellFormed program
    → length (shown_of shown program faults coins) ≡ shown_count shown program
length-shown Records program faults coins listing = length-records_of program faults coins listing
length-shown Detections program faults coins listing =
    length-difference program (records_of program faults coins) (records_of program [] (zero_coins program))

-- the line of a shot is that of what is shown of it
pub shown_line-is : (shown : Shown) (program : Listing) (g : Lcg)
    → shown_line shown program g ≡ line_of (shown_of shown program (shot_faults program g) (shot_coins program g))
shown_line-is Records program g = refl
shown_line-is Detections program g = refl
