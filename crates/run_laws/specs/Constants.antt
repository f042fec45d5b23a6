-- Targets that have no place. Along every run the sensitivity of such a target, as a word with a sign, is in the state
-- after each step. Its sign is the exclusive or of the records so far that the sensitivity lists and of what the steps
-- so far bring: their gates, their products with collapsed words, their inversions and the faults that happen. In the
-- end the word is the identity, whose sign is plus, so the parity is what the steps bring, whatever the coins.
-- (Gottesman, arXiv:quant-ph/9807006: words carried through a circuit.)
use Rattle.std.specs.Prelude.{◌≡◌, ℕ, Bool, true, false, ◌&&◌, List, [], ◌∷◌, ◌++◌, None}
use Rattle.pauli_word.specs.Letters.{is_minus}
use Rattle.pauli_word.specs.Parity.{exclusive_or}
use Rattle.pauli_word.specs.Words.{signed, letters_power, anticommute}
use Rattle.gate_table.specs.WordImages.{preimage_at, preimage_at_two}
use Rattle.step_model.specs.Listing.{Listing, ListedStep, One, Two, Collapse, Fault, Feedback, measured_word, fault_word}
use Rattle.step_model.specs.Runs.{RunState, happens, record_changes, run_from, start, records_of}
use Rattle.step_model.specs.Sensitivities.{Sensitivity, sensitivity, cleared, record_counts, place_of}
use Rattle.step_model.specs.Targets.{target_at, parity}
use Rattle.step_model.specs.WellFormed.{IsWellFormed}

-- whatever faults happen, all coin lists give the target one parity
abbrev pub IsConstant : Listing → ℕ → Type 0
IsConstant program d =
    (faults first second : List Bool)
    → parity (target_at program d) (records_of program faults first) ≡ parity (target_at program d) (records_of program faults second)

-- what a step brings to the sign of a sensitivity, where s is the sensitivity after it. Feedback brings nothing: the
-- record that it adds to the sensitivity stands for it
abbrev pub sign_brought : Listing → List Bool → ListedStep → Sensitivity → Bool
sign_brought program faults (One gate q) s = (preimage_at gate q (signed s.word false)).negative
sign_brought program faults (Two gate a b) s = (preimage_at_two gate a b (signed s.word false)).negative
sign_brought program faults (Collapse c r) s =
    record_counts s.records r
    && exclusive_or (is_minus (letters_power (measured_word program.qubits c) (cleared c s.word))) (record_changes faults r)
sign_brought program faults (Fault f) s = happens faults f && anticommute s.word (fault_word program f)
sign_brought program faults (Feedback w r) s = false

-- what the earlier of two parts of the steps brings, for the target with these records
abbrev pub signs_brought : Listing → List Bool → List ℕ → List ListedStep → List ListedStep → Bool
signs_brought program faults named [] later = false
signs_brought program faults named (step ∷ earlier) later =
    exclusive_or
    (sign_brought program faults step (sensitivity program.qubits named (earlier ++ later)))
    (signs_brought program faults named earlier later)

-- whatever faults happen and whatever the coins are, the parity of the target is what all the steps bring: after them its
-- sensitivity is the identity, and minus the identity is in no state
abbrev pub ParityIsWhatStepsBring : Listing → ℕ → Type 0
ParityIsWhatStepsBring program d =
    (faults coins : List Bool)
    → parity (target_at program d) (records_of program faults coins)
    ≡ signs_brought program faults (target_at program d) program.steps []

-- between two parts of the steps, the sensitivity there of the target with these records is in the run's state, with its
-- sign
abbrev pub HasSensitivity : Listing → List Bool → List Bool → List ℕ → List ListedStep → List ListedStep → Type 0
HasSensitivity program faults coins named earlier later =
    let s : Sensitivity = sensitivity program.qubits named later in
    let m : RunState = run_from program faults earlier (start coins) in
    m.state (signed s.word (exclusive_or (parity s.records m.records) (signs_brought program faults named earlier later)))
    ≡ true

-- that is so along every run, of every target without a place
abbrev pub SensitivityStays : Type 0
SensitivityStays =
    (program : Listing) (d : ℕ) (faults coins : List Bool) (earlier later : List ListedStep)
    → IsWellFormed program → place_of program d ≡ None → program.steps ≡ earlier ++ later
    → HasSensitivity program faults coins (target_at program d) earlier later
