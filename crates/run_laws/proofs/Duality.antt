-- Faults change a target without a place by the exclusive sum of those that hit it: its parity is what the
-- steps bring, to which each fault that happens adds where it hits.
use Rattle.std.proofs.Common.{◌≡◌, ◌≢◌, ℕ, suc, ◌<◌, ◌==◌, nat_lt, Bool, true, false, ◌&&◌, List, [], ◌∷◌, ◌++◌, append-nil, length, Option, Some, None, refl, ap, ap₂, sym, ◌∙◌, arith}
use Rattle.std.specs.List.{range_with_len, AllPass}
use Rattle.std.proofs.lemmas.Bool.{and_parts, and_right, ltb-true, eq-eqb, ne_eqb}
use Rattle.pauli_word.specs.Letters.{is_minus}
use Rattle.pauli_word.specs.Parity.{exclusive_or}
use Rattle.pauli_word.specs.Words.{letters_power, anticommute, signed}
use Rattle.pauli_word.proofs.Parities.{exclusive_or-false, exclusive_or_self, exclusive_or_middle, same_truth, same_truth-true, at_four_truths}
use Rattle.run_laws.specs.Constants.{sign_brought, signs_brought}
use Rattle.run_laws.specs.Duality.{AddsUp, OneFaultLaw, odd_hits_among}
use Rattle.step_model.specs.Hits.{is_flip_of, hits_at, is_hit}
use Rattle.step_model.proofs.HitSteps.{hits_oddly, oddly}
use Rattle.gate_table.specs.WordImages.{preimage_at, preimage_at_two}
use Rattle.step_model.specs.Listing.{ListedStep, One, Two, Collapse, Fault, Feedback, Recorded, measured_word, Listing, fault_word, effect_at}
use Rattle.step_model.specs.Runs.{happens, flip_happens, records_of}
use Rattle.step_model.specs.Sensitivities.{Sensitivity, cleared, sensitivity, record_counts, place_of}
use Rattle.step_model.specs.Targets.{target_at, is_listed, parity}
use Rattle.step_model.specs.WellFormed.{IsWellFormed, measured_fits, step_fits, flip_fits, flips_record, applies_word}
use Rattle.run_laws.proofs.ConstancyRuns.{parity-brought}
use Rattle.run_laws.proofs.DualitySums.{sum_over, sum_over-split, sum_over-never, sum_over-only}
use Rattle.pauli_word.proofs.Groups.{and-exclusive_or}

-- whether what happens at a step changes the target, and whether all that happens at these steps does
abbrev record_flipped : List Bool → Option Recorded → Bool
record_flipped happening None = false
record_flipped happening (Some r) = flip_happens happening r.flip

abbrev flipped_at : Listing → List Bool → ListedStep → Sensitivity → Bool
flipped_at program happening (One gate q) s = false
flipped_at program happening (Two gate a b) s = false
flipped_at program happening (Collapse c r) s = record_flipped happening r && record_counts s.records r
flipped_at program happening (Fault f) s = happens happening f && anticommute s.word (fault_word program f)
flipped_at program happening (Feedback w r) s = false

abbrev flipped_among : Listing → List Bool → List ℕ → List ListedStep → Bool
flipped_among program happening named [] = false
flipped_among program happening named (step ∷ steps) =
    exclusive_or (flipped_at program happening step (sensitivity program.qubits named steps)) (flipped_among program happening named steps)

no_flip : (flip : Option ℕ) → flip_happens [] flip ≡ false
no_flip None = refl
no_flip (Some f) = refl

collapse_difference : (counts minus inverted flips : Bool) → exclusive_or (counts && exclusive_or minus (exclusive_or inverted flips)) (counts && exclusive_or minus (exclusive_or inverted false)) ≡ (flips && counts)
collapse_difference counts minus inverted flips =
    same_truth-true _ _
    (at_four_truths
    (λ counts minus inverted flips. same_truth (exclusive_or (counts && exclusive_or minus (exclusive_or inverted flips)) (counts && exclusive_or minus (exclusive_or inverted false))) (flips && counts))
    refl counts minus inverted flips)

-- what a step brings with these faults and without
step_difference : (program : Listing) (happening : List Bool) (step : ListedStep) (s : Sensitivity) → exclusive_or (sign_brought program happening step s) (sign_brought program [] step s) ≡ flipped_at program happening step s
step_difference program happening (One gate q) s = exclusive_or_self (preimage_at gate q (signed s.word false)).negative
step_difference program happening (Two gate a b) s = exclusive_or_self (preimage_at_two gate a b (signed s.word false)).negative
step_difference program happening (Collapse c None) s = refl
step_difference program happening (Collapse c (Some r)) s =
    ap (λ x. exclusive_or (sign_brought program happening (Collapse c (Some r)) s) (is_listed s.records r.number && exclusive_or minus (exclusive_or r.inverted x))) (no_flip r.flip)
    ∙ collapse_difference (is_listed s.records r.number) minus r.inverted (flip_happens happening r.flip)
  where
    minus : Bool
    minus = is_minus (letters_power (measured_word program.qubits c) (cleared c s.word))
step_difference program happening (Fault f) s = exclusive_or-false (happens happening f && anticommute s.word (fault_word program f))
step_difference program happening (Feedback w r) s = refl

-- and those of all steps
difference : (program : Listing) (happening : List Bool) (named : List ℕ) (steps : List ListedStep) → exclusive_or (signs_brought program happening named steps []) (signs_brought program [] named steps []) ≡ flipped_among program happening named steps
difference program happening named [] = refl
difference program happening named (step ∷ steps) =
    exclusive_or_middle (sign_brought program happening step s) (signs_brought program happening named steps []) (sign_brought program [] step s) (signs_brought program [] named steps [])
    ∙ ap₂ exclusive_or
    (step_difference program happening step s ∙ ap (λ later. flipped_at program happening step (sensitivity program.qubits named later)) (append-nil steps))
    (difference program happening named steps)
  where
    s : Sensitivity
    s = sensitivity program.qubits named (steps ++ [])

-- a fault that must be the number g: it is true there alone
at_it : (g : ℕ) (b x : Bool) → (b && ((g == g) && x)) ≡ (b && x)
at_it g b x = ap (λ y. b && (y && x)) (eq-eqb g g refl)

elsewhere : (g f : ℕ) (b x : Bool) → g ≢ f → (b && ((g == f) && x)) ≡ false
elsewhere g f b x h = ap (λ y. b && (y && x)) (ne_eqb g f h) ∙ and_right b false refl

-- the faults that happen and hit at a step
never_here : (program : Listing) (happening : List Bool) → sum_over (λ f. happens happening f && false) (range_with_len 0 (length program.faults)) ≡ false
never_here program happening =
    sum_over-never (λ f. happens happening f && false) (λ f. and_right (happens happening f) false refl) (range_with_len 0 (length program.faults))

flip_here : (program : Listing) (happening : List Bool) (r : ℕ) (flip : Option ℕ) (counts : Bool) → flip_fits program r flip ≡ true → sum_over (λ f. happens happening f && (is_flip_of f flip && counts)) (range_with_len 0 (length program.faults)) ≡ (flip_happens happening flip && counts)
flip_here program happening r None counts fits = never_here program happening
flip_here program happening r (Some g) counts fits =
    let in_range : g < length program.faults = ltb-true g (length program.faults) (and_parts (nat_lt g (length program.faults)) (flips_record r (effect_at program g)) fits).0 in
    sum_over-only (λ f. happens happening f && ((g == f) && counts)) g
    (λ f h. elsewhere g f (happens happening f) counts h)
    0 (length program.faults) (omega arith) (omega arith)
    ∙ at_it g (happens happening g) counts

hits_at_step : (program : Listing) (happening : List Bool) (step : ListedStep) (s : Sensitivity) → step_fits program step ≡ true → sum_over (λ f. happens happening f && hits_at program f step s) (range_with_len 0 (length program.faults)) ≡ flipped_at program happening step s
hits_at_step program happening (One gate q) s fits = never_here program happening
hits_at_step program happening (Two gate a b) s fits = never_here program happening
hits_at_step program happening (Collapse c None) s fits = never_here program happening
hits_at_step program happening (Collapse c (Some r)) s fits =
    flip_here program happening r.number r.flip (is_listed s.records r.number) (and_parts (measured_fits program.qubits c) (flip_fits program r.number r.flip) fits).1
hits_at_step program happening (Fault g) s fits =
    let in_range : g < length program.faults = ltb-true g (length program.faults) (and_parts (nat_lt g (length program.faults)) (applies_word (effect_at program g)) fits).0 in
    sum_over-only (λ f. happens happening f && ((g == f) && anticommute s.word (fault_word program f))) g
    (λ f h. elsewhere g f (happens happening f) (anticommute s.word (fault_word program f)) h)
    0 (length program.faults) (omega arith) (omega arith)
    ∙ at_it g (happens happening g) (anticommute s.word (fault_word program g))
hits_at_step program happening (Feedback w r) s fits = never_here program happening

-- the faults that happen and hit at these steps
hits_in_all : (program : Listing) (happening : List Bool) (named : List ℕ) (steps : List ListedStep) → AllPass (step_fits program) steps → sum_over (λ f. happens happening f && hits_oddly program named f steps) (range_with_len 0 (length program.faults)) ≡ flipped_among program happening named steps
hits_in_all program happening named [] fits =
    sum_over-never (λ f. happens happening f && false) (λ f. and_right (happens happening f) false refl) (range_with_len 0 (length program.faults))
hits_in_all program happening named (step ∷ steps) fits =
    sum_over-split (λ f. happens happening f && hits_oddly program named f (step ∷ steps)) (λ f. happens happening f && hits_at program f step s) (λ f. happens happening f && hits_oddly program named f steps)
    (λ f. and-exclusive_or (happens happening f) (hits_at program f step s) (hits_oddly program named f steps))
    (range_with_len 0 (length program.faults))
    ∙ ap₂ exclusive_or
    (hits_at_step program happening step s (fits 0 step (omega arith)))
    (hits_in_all program happening named steps (λ k d h. fits (suc k) d (omega arith)))
  where
    s : Sensitivity
    s = sensitivity program.qubits named steps

-- sums of what is the same for each
sum_same : (g h : ℕ → Bool) → ((f : ℕ) → g f ≡ h f) → (fs : List ℕ) → sum_over g fs ≡ sum_over h fs
sum_same g h same [] = refl
sum_same g h same (f ∷ fs) = ap₂ exclusive_or (same f) (sum_same g h same fs)

-- the definition's sum is this one
odd_hits_among-sum : (program : Listing) (d : ℕ) (happening : List Bool) (faults : List ℕ) → odd_hits_among program d happening faults ≡ sum_over (λ f. happens happening f && is_hit program d f) faults
odd_hits_among-sum program d happening [] = refl
odd_hits_among-sum program d happening (f ∷ faults) = ap (exclusive_or (happens happening f && is_hit program d f)) (odd_hits_among-sum program d happening faults)

pub faults_add_up : (program : Listing) (d : ℕ) → IsWellFormed program → place_of program d ≡ None → AddsUp program d
faults_add_up program d fits none happening first second =
    ap₂ exclusive_or (parity-brought program d fits none happening first) (parity-brought program d fits none [] second)
    ∙ difference program happening (target_at program d) program.steps
    ∙ sym (hits_in_all program happening (target_at program d) program.steps fits.steps_fit)
    ∙ sym (sum_same (λ f. happens happening f && is_hit program d f) (λ f. happens happening f && hits_oddly program (target_at program d) f program.steps)
    (λ f. ap (λ b. happens happening f && b) (oddly program (target_at program d) f program.steps 0 (length program.faults) fits.faults_in_order))
    (range_with_len 0 (length program.faults)))
    ∙ sym (odd_hits_among-sum program d happening (range_with_len 0 (length program.faults)))

-- what two parities differ by is what both differ from a third by
through : (a b n : Bool) → exclusive_or (exclusive_or a n) (exclusive_or b n) ≡ exclusive_or a b
through a b n =
    same_truth-true _ _ (at_four_truths (λ a b n _. same_truth (exclusive_or (exclusive_or a n) (exclusive_or b n)) (exclusive_or a b)) refl a b n false)

-- what happens in one alone, as the difference of what happens in both
alone : (h e x : Bool) → (e && x) ≡ exclusive_or (h && x) (exclusive_or e h && x)
alone h e x =
    same_truth-true _ _ (at_four_truths (λ h e x _. same_truth (e && x) (exclusive_or (h && x) (exclusive_or e h && x))) refl h e x false)

pub one_fault : OneFaultLaw
one_fault program d f happening others first second fit none in_range differ =
    let named = target_at program d in
    let unchanged = parity named (records_of program [] []) in
    let faults = range_with_len 0 (length program.faults) in
    let only = λ (g : ℕ). (g == f) && is_hit program d g in
    sym (through (parity named (records_of program happening first)) (parity named (records_of program others second)) unchanged)
    ∙ ap₂ exclusive_or (faults_add_up program d fit none happening first []) (faults_add_up program d fit none others second [])
    ∙ ap₂ exclusive_or (odd_hits_among-sum program d happening faults) (odd_hits_among-sum program d others faults)
    ∙ sym (sum_over-split only (λ g. happens happening g && is_hit program d g) (λ g. happens others g && is_hit program d g)
    (λ g. alone (happens happening g) (g == f) (is_hit program d g)
    ∙ ap (λ x. exclusive_or (happens happening g && is_hit program d g) (x && is_hit program d g)) (sym (differ g)))
    faults)
    ∙ sum_over-only only f (λ g h. elsewhere g f true (is_hit program d g) (λ e. h (sym e))) 0 (length program.faults) (omega arith) (omega arith)
    ∙ at_it f true (is_hit program d f)
