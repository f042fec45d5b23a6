-- The two runs of a coin pair: up to the place they are one, and from there on they differ by the frame begun there.
use Rattle.std.proofs.Common.{◌≡◌, ℕ, ◌+◌, suc, subst, ap₂, arith, length-append, inl, inr, not, if◌then◌else◌, is_some, Bool, true, false, List, [], ◌∷◌, ◌++◌, length, drop, get_or, replicate, Option, None, Some, refl, ap, sym, ◌∙◌}
use Rattle.std.proofs.lemmas.List.{length-replicate}
use Rattle.std.proofs.lemmas.List.Elements.{All-head, All-tail}
use Rattle.std.specs.List.{AllPass}
use Rattle.pauli_word.specs.declared.letter.Letter.{Letter}
use Rattle.pauli_word.specs.Parity.{exclusive_or}
use Rattle.pauli_word.specs.Words.{anticommute, no_letters}
use Rattle.pauli_word.proofs.WordLaws.{anticommute_of_none}
use Rattle.step_model.specs.Frames.{begun, flips_from, flips_after, words_collapsed}
use Rattle.step_model.specs.Listing.{ListedStep, One, Two, Collapse, Fault, Feedback, Measured, Recorded, measured_word, Listing, step_records}
use Rattle.pauli_word.specs.States.{State, outcome, collapsed}
use Rattle.pauli_word.specs.Groups.{IsGroup}
use Rattle.step_model.specs.Runs.{RunState, correction, corrected, record_changes, next_coin, next, run_from}
use Rattle.step_model.specs.Sensitivities.{Sensitivity, latest_place, sensitivity}
use Rattle.run_laws.specs.Shifts.{flipped_by, flips_with, carried_over, IsShifted, DifferByFrame, IsShift}
use Rattle.step_model.specs.Targets.{parity}
use Rattle.step_model.specs.WellFormed.{step_fits, records_made}
use Rattle.step_model.proofs.StateIsGroup.{IsGroup-next, length-measured}
use Rattle.run_laws.proofs.ConstancyRecords.{in_order-next}
use Rattle.run_laws.proofs.PairParity.{Numbered, parity-carried}
use Rattle.run_laws.proofs.PairPlaces.{after_first, later_only, later_or_this}
use Rattle.run_laws.proofs.PairStates.{collapse-shifted}
use Rattle.run_laws.proofs.ShiftLists.{joined-no_flips, parity-joined, parity-zeros}
use Rattle.run_laws.proofs.ShiftRuns.{frames_shift_runs, same-flips}

-- a run with other coins to come
abbrev pub with_coins : RunState → List Bool → RunState
with_coins m coins = record m { coins = coins }

-- runs that differ by a frame give a target different parities where the frame anticommutes with its sensitivity
pub frame_disagrees : (program : Listing) (named : List ℕ) (steps : List ListedStep) (v : List Letter) (made : ℕ) (m : RunState) (coins : List Bool)
    → AllPass (step_fits program) steps → Numbered (length m.records) steps → length v ≡ program.qubits → IsGroup program.qubits m.state
    → made ≡ length m.records
    → IsShifted program.qubits v m.state m.state → coins ≡ flipped_by (flips_from program.qubits (begun v made) steps) m.coins
    → anticommute v (sensitivity program.qubits named steps).word ≡ true
    → parity named (run_from program [] steps (with_coins m coins)).records ≡ not (parity named (run_from program [] steps m).records)
frame_disagrees program named steps v made m coins fit numbered size group made_is shifted flipped clashes =
    let frame = begun v made in
    let long : length (replicate made false) ≡ length m.records = length-replicate made false ∙ made_is in
    let s : Sensitivity = sensitivity program.qubits named steps in
    let differ : DifferByFrame program.qubits frame (flips_with program [] [] frame steps) m (with_coins m coins) = record {
      size = size;
      group = group;
      states = shifted;
      coins = flipped ∙ ap (λ flips. flipped_by flips m.coins) (sym (same-flips program [] frame steps));
      records_size = long;
      records = sym (joined-no_flips made m.records made_is);
    } in
    let shift : IsShift program [] [] steps frame m (with_coins m coins) = frames_shift_runs program [] [] steps frame m (with_coins m coins) fit differ in
    ap (parity named) shift.ends.records
    ∙ parity-joined named (carried_over program [] [] steps frame).records (run_from program [] steps m).records
    ∙ ap (λ b. exclusive_or b (parity named (run_from program [] steps m).records))
    (parity-carried program [] named steps frame fit (subst (λ l. Numbered l steps) (sym long) numbered) size
    ∙ ap₂ exclusive_or (parity-zeros s.records made) clashes)

-- a run between two steps, of its parts
abbrev run_state : State → List Bool → List Bool → RunState
run_state state coins records = record { state = state; coins = coins; records = records }

-- a collapse with the same coin
pub same-collapse : (program : Listing) (faults : List Bool) (c : Measured) (r : Option Recorded) (m : RunState) (coins : List Bool)
    → next_coin coins ≡ next_coin m.coins
    → next program faults (Collapse c r) (with_coins m coins) ≡ with_coins (next program faults (Collapse c r) m) (drop 1 coins)
same-collapse program faults c r m coins h =
    let w = measured_word program.qubits c in
    ap
    (λ (coin : Bool). run_state (corrected (correction program.qubits c) (outcome m.state w coin) (collapsed w coin m.state)) (drop 1 coins)
    (if is_some r then m.records ++ exclusive_or (outcome m.state w coin) (record_changes faults r) ∷ [] else m.records))
    h

-- how many records there are after a collapse
pub made-next : (program : Listing) (faults : List Bool) (c : Measured) (r : Option Recorded) (m : RunState) (made : ℕ) → made ≡ length m.records → made + length (step_records (Collapse c r)) ≡ length (next program faults (Collapse c r) m).records
made-next program faults c None m made h = omega arith
made-next program faults c (Some r) m made h = omega (arith, length-append m.records (exclusive_or (outcome m.state (measured_word program.qubits c) (next_coin m.coins)) (record_changes faults (Some r)) ∷ []))

-- the coins of a pair, whose frame begins after collapse k of these steps, so many records being made before them
abbrev pair_flips : ℕ → ℕ → List ListedStep → ℕ → List Bool
pair_flips n made steps k = flips_after n (get_or (words_collapsed n steps) k (no_letters n)) k made steps

pub place_disagrees : (program : Listing) (named : List ℕ) (steps : List ListedStep) (k made : ℕ) (m : RunState) (coins : List Bool)
    → AllPass (step_fits program) steps → Numbered (length m.records) steps → IsGroup program.qubits m.state → made ≡ length m.records
    → latest_place program.qubits named steps ≡ Some k → coins ≡ flipped_by (pair_flips program.qubits made steps k) m.coins
    → parity named (run_from program [] steps (with_coins m coins)).records ≡ not (parity named (run_from program [] steps m).records)
place_disagrees program named [] k made m coins fit numbered group made_is place flipped = cc
place_disagrees program named (One gate q ∷ steps) k made m coins fit numbered group made_is place flipped =
    place_disagrees program named steps k (made + 0) (next program [] (One gate q) m) coins (All-tail (λ x. step_fits program x ≡ true) (One gate q) steps fit) numbered
    (IsGroup-next program [] (One gate q) m (All-head (λ x. step_fits program x ≡ true) (One gate q) steps fit) group) (omega arith)
    (later_only (One gate q) _ _ k refl (anticommute_of_none program.qubits (sensitivity program.qubits named steps).word) place) flipped
place_disagrees program named (Two gate a b ∷ steps) k made m coins fit numbered group made_is place flipped =
    place_disagrees program named steps k (made + 0) (next program [] (Two gate a b) m) coins (All-tail (λ x. step_fits program x ≡ true) (Two gate a b) steps fit) numbered
    (IsGroup-next program [] (Two gate a b) m (All-head (λ x. step_fits program x ≡ true) (Two gate a b) steps fit) group) (omega arith)
    (later_only (Two gate a b) _ _ k refl (anticommute_of_none program.qubits (sensitivity program.qubits named steps).word) place) flipped
place_disagrees program named (Fault f ∷ steps) k made m coins fit numbered group made_is place flipped =
    place_disagrees program named steps k (made + 0) (next program [] (Fault f) m) coins (All-tail (λ x. step_fits program x ≡ true) (Fault f) steps fit) numbered
    (IsGroup-next program [] (Fault f) m (All-head (λ x. step_fits program x ≡ true) (Fault f) steps fit) group) (omega arith)
    (later_only (Fault f) _ _ k refl (anticommute_of_none program.qubits (sensitivity program.qubits named steps).word) place) flipped
place_disagrees program named (Feedback w r ∷ steps) k made m coins fit numbered group made_is place flipped =
    place_disagrees program named steps k (made + 0) (next program [] (Feedback w r) m) coins (All-tail (λ x. step_fits program x ≡ true) (Feedback w r) steps fit) numbered
    (IsGroup-next program [] (Feedback w r) m (All-head (λ x. step_fits program x ≡ true) (Feedback w r) steps fit) group) (omega arith)
    (later_only (Feedback w r) _ _ k refl (anticommute_of_none program.qubits (sensitivity program.qubits named steps).word) place) flipped
place_disagrees program named (Collapse c r ∷ steps) k made m coins fit numbered group made_is place flipped =
    let n = program.qubits in
    let step = Collapse c r in
    let w = measured_word n c in
    let fits : step_fits program step ≡ true = All-head (λ x. step_fits program x ≡ true) step steps fit in
    let fit_after : AllPass (step_fits program) steps = All-tail (λ x. step_fits program x ≡ true) step steps fit in
    let group_after : IsGroup n (next program [] step m).state = IsGroup-next program [] step m fits group in
    let numbered_after : Numbered (length (next program [] step m).records) steps = in_order-next program [] step (records_made steps) m numbered.0 numbered.1 in
    let after = λ (c : RunState). parity named (run_from program [] steps c).records in
    elim (later_or_this step (latest_place n named steps) (anticommute w (sensitivity n named steps).word) k refl place) [
      | inl x ↦
          (let so_far = made + length (step_records step) in
          let first = get_or (words_collapsed n steps) x.0 (no_letters n) in
          let later : pair_flips n made (step ∷ steps) (suc x.0) ≡ false ∷ pair_flips n so_far steps x.0 =
          ap (λ flips. false ∷ flips) (after_first x.0 (flips_from n (begun first so_far) steps) (λ j. flips_after n first j so_far steps)) in
          let e : coins ≡ flipped_by (false ∷ pair_flips n so_far steps x.0) m.coins =
          flipped ∙ ap (λ flips. flipped_by flips m.coins) (ap (pair_flips n made (step ∷ steps)) x.2 ∙ later) in
          ap after (same-collapse program [] c r m coins (ap next_coin e))
          ∙ place_disagrees program named steps x.0 so_far (next program [] step m) (drop 1 coins) fit_after numbered_after group_after (made-next program [] c r m made made_is) x.1 (ap (drop 1) e))
      | inr x ↦
          (let e : coins ≡ flipped_by (pair_flips n made (step ∷ steps) 0) m.coins = flipped ∙ ap (λ i. flipped_by (pair_flips n made (step ∷ steps) i) m.coins) x.2 in
          ap after (same-collapse program [] c r m coins (ap next_coin e))
          ∙ frame_disagrees program named steps w (made + length (step_records step)) (next program [] step m) (drop 1 coins) fit_after numbered_after (length-measured program c r fits) group_after
          (made-next program [] c r m made made_is)
          (collapse-shifted program [] c r m fits group) (ap (drop 1) e) x.1)
    ]
