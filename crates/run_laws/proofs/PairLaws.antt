-- The coin pair of a place gives its target different parities, so the target is random.
use Rattle.std.proofs.Common.{◌≡◌, ◌≢◌, ℕ, ◌<◌, refl, inl, inr, not, Bool, true, false, List, [], length, replicate, Option, None, Some, ap, sym, ◌∙◌, subst}
use Rattle.std.proofs.lemmas.List.{length-replicate}
use Rattle.std.specs.Option.{option_map}
use Rattle.pauli_word.specs.declared.letter.Letter.TheVariants.{Z}
use Rattle.pauli_word.specs.Words.{lone_letter}
use Rattle.pauli_word.proofs.WordLaws.{anticommute_comm}
use Rattle.step_model.specs.declared.step.Place.{Place}
use Rattle.step_model.specs.declared.step.Place.TheVariants.{Start, After}
use Rattle.step_model.specs.Frames.{begun, flips_from, zero_coins, pair_coins, first_word}
use Rattle.step_model.specs.Listing.{Listing}
use Rattle.step_model.specs.Runs.{start}
use Rattle.step_model.specs.Sensitivities.{after_or_start, latest_place, sensitivity, lowest_X_or_Y, place_of}
use Rattle.run_laws.specs.Shifts.{flipped_by}
use Rattle.run_laws.specs.Pairs.{Disagrees, PairLaw, PlaceLaw, RandomLaw}
use Rattle.step_model.specs.Targets.{target_at}
use Rattle.step_model.specs.WellFormed.{IsWellFormed}
use Rattle.pauli_word.proofs.Groups.{IsGroup-start}
use Rattle.step_model.proofs.SensitivityLengths.{length-sensitivity}
use Rattle.run_laws.proofs.ConstancyRuns.{parity_is_constant}
use Rattle.run_laws.proofs.PairPlaces.{option_either, length-flips_from, length-flips_after, lowest-clash}
use Rattle.run_laws.proofs.PairRuns.{frame_disagrees, place_disagrees}
use Rattle.run_laws.proofs.PairStates.{start-shifted, lone_letter-I_or_Z}
use Rattle.run_laws.proofs.ShiftLists.{joined-zeros}
use Rattle.pauli_word.proofs.LoneLetters.{length-lone_letter}
use Rattle.run_laws.proofs.ShiftWords.{anticommute-lone}

not_same : (a b : Bool) → b ≡ not a → a ≢ b
not_same false false h k = cc
not_same false true h k = cc
not_same true false h k = cc
not_same true true h k = cc

-- coins that differ from zeros by flips are the flips
from_zeros : (flips : List Bool) (n : ℕ) → length flips ≡ n → flips ≡ flipped_by flips (replicate n false)
from_zeros flips n h = sym (joined-zeros flips) ∙ ap (λ k. flipped_by flips (replicate k false)) h

-- a target whose place is after a collapse
after_disagrees : (program : Listing) (d k : ℕ) → IsWellFormed program → latest_place program.qubits (target_at program d) program.steps ≡ Some k → Disagrees program d (After k)
after_disagrees program d k fit place =
    let coins = pair_coins program (After k) in
    let long : length coins ≡ program.collapses =
    length-flips_after program.qubits (first_word program (After k)) k 0 program.steps
    ∙ fit.collapses_counted in
    record {
      first = length-replicate program.collapses false;
      second = long;
      parities = not_same _ _ (place_disagrees program (target_at program d) program.steps k 0 (start (zero_coins program)) coins fit.steps_fit
          (program.records, fit.records_in_order) (IsGroup-start program.qubits) refl place (from_zeros coins program.collapses long));
    }

-- a target whose place is in the start
start_disagrees : (program : Listing) (d q : ℕ) → IsWellFormed program → lowest_X_or_Y (sensitivity program.qubits (target_at program d) program.steps).word ≡ Some q → Disagrees program d (Start q)
start_disagrees program d q fit place =
    let n = program.qubits in
    let named = target_at program d in
    let v = lone_letter n q Z in
    let w = (sensitivity n named program.steps).word in
    let coins = flips_from n (begun v 0) program.steps in
    let long : length coins ≡ program.collapses = length-flips_from n (begun v 0) program.steps ∙ fit.collapses_counted in
    let clash = lowest-clash w q place in
    record {
      first = length-replicate program.collapses false;
      second = long;
      parities = not_same _ _ (frame_disagrees program named program.steps v 0 (start (zero_coins program)) coins fit.steps_fit
          (program.records, fit.records_in_order) (length-lone_letter n q Z) (IsGroup-start n) refl
          (start-shifted n v (lone_letter-I_or_Z n q)) (from_zeros coins program.collapses long)
          (anticommute_comm v w
          ∙ anticommute-lone w n q Z (length-sensitivity program named program.steps fit.steps_fit) (subst (λ m. q < m) (length-sensitivity program named program.steps fit.steps_fit) clash.0)
          ∙ clash.1));
    }

pub pair_disagrees : PairLaw
pair_disagrees program d place fit h =
    let latest = latest_place program.qubits (target_at program d) program.steps in
    let w = (sensitivity program.qubits (target_at program d) program.steps).word in
    elim (option_either latest) [
      | inl none ↦
          (let e : option_map Start (lowest_X_or_Y w) ≡ Some place = sym (ap (λ o. after_or_start o w) none) ∙ h in
          elim (option_either (lowest_X_or_Y w)) [
            | inl nowhere ↦ (let f : ◌≡◌ {A = Option Place} None (Some place) = sym (ap (option_map Start) nowhere) ∙ e in cc)
            | inr x ↦
                (let f : ◌≡◌ {A = Option Place} (Some (Start x.0)) (Some place) = sym (ap (option_map Start) x.1) ∙ e in
                subst (Disagrees program d) (some_place _ _ f) (start_disagrees program d x.0 fit x.1))
          ])
      | inr x ↦
          (let f : ◌≡◌ {A = Option Place} (Some (After x.0)) (Some place) = sym (ap (λ o. after_or_start o w) x.1) ∙ h in
          subst (Disagrees program d) (some_place _ _ f) (after_disagrees program d x.0 fit x.1))
    ]
  where
    some_place : (a b : Place) → ◌≡◌ {A = Option Place} (Some a) (Some b) → a ≡ b
    some_place a b h = cc

pub place_makes_random : PlaceLaw
place_makes_random program d place fit h =
    let pair = pair_disagrees program d place fit h in
    (zero_coins program, pair_coins program place, pair.first, pair.second, pair.parities)

pub random_exactly_with_place : RandomLaw
random_exactly_with_place program d fit = (
  (λ random. elim (option_either (place_of program d)) [
    | inl none ↦ absurd (random.4 (parity_is_constant program d fit none [] random.0 random.1))
    | inr x ↦ x
  ]),
  (λ x. place_makes_random program d x.0 fit x.1),
)
