-- What a run of a program does, step by step, to the state of its qubits, its coins and its records. A gate U turns the
-- state into the words whose preimage under U was in it. A fault that happens applies its word. A collapse, the
-- projective measurement inside a measurement or a reset, takes the next coin, which is its outcome where that is random;
-- its record is the outcome, inverted where the step says so, and inverted where its flip happens. A reset applies a
-- correcting letter where the outcome, before any inversion, was 1. Feedback applies a word where an earlier record, as
-- it was recorded, is 1. (Aaronson and Gottesman, Phys. Rev. A 70, 052328 (2004), sections II and III; Stim's circuit
-- format.)
use Rattle.std.specs.Prelude.{ℕ, Bool, false, if◌then◌else◌, List, [], ◌∷◌, ◌++◌, Option, None, Some, is_some, drop, take, slice_index_or}
use Rattle.pauli_word.specs.declared.letter.Letter.{Letter}
use Rattle.pauli_word.specs.Parity.{exclusive_or}
use Rattle.pauli_word.specs.States.{State, start_state, applied, outcome, collapsed, correcting}
use Rattle.pauli_word.specs.Words.{lone_letter}
use Rattle.gate_table.specs.WordImages.{preimage_at, preimage_at_two}
use Rattle.step_model.specs.Listing.{Listing, ListedStep, One, Two, Collapse, Fault, Feedback, Measured, Word, Reset, Recorded, measured_word, fault_word}

-- a run between two steps: the state, the coins of the collapses to come, and the records so far
pub record RunState : Type 0 where
  pub state : State
  pub coins : List Bool
  pub records : List Bool

-- the next coin: 0 where none is left
abbrev pub next_coin : List Bool → Bool
next_coin coins = slice_index_or coins 0 false

-- the state after a correction, where there is one, for the outcome that was seen
abbrev pub corrected : Option (List Letter) → Bool → State → State
corrected None seen s = s
corrected (Some c) seen s = applied seen c s

-- the run after a collapse of w, which takes the next coin. A correction, where there is one, is applied if the
-- outcome was 1. The record, where one is made, is the outcome, inverted if `changes`
abbrev pub after_collapse : List Letter → Option (List Letter) → Bool → Bool → RunState → RunState
after_collapse w correction recorded changes m =
    let coin = next_coin m.coins in
    let seen = outcome m.state w coin in
    record {
      state = corrected correction seen (collapsed w coin m.state);
      coins = drop 1 m.coins;
      records = if recorded then m.records ++ exclusive_or seen changes ∷ [] else m.records;
    }

-- whether a fault happens: the list has a truth value for each fault, and where it is too short the fault doesn't happen
abbrev pub happens : List Bool → ℕ → Bool
happens faults f = slice_index_or faults f false

-- whether the fault that flips a record happens, where there is one
abbrev pub flip_happens : List Bool → Option ℕ → Bool
flip_happens faults None = false
flip_happens faults (Some f) = happens faults f

-- whether a record differs from its outcome: it does where it is inverted or its flip happens, but not where both are so
abbrev pub record_changes : List Bool → Option Recorded → Bool
record_changes faults None = false
record_changes faults (Some r) = exclusive_or r.inverted (flip_happens faults r.flip)

-- the word that corrects an outcome of 1, where a collapse resets
abbrev pub correction : ℕ → Measured → Option (List Letter)
correction n (Word w) = None
correction n (Reset letter q) = Some (lone_letter n q (correcting letter))

-- the run after a step, where these faults happen
abbrev pub next : Listing → List Bool → ListedStep → RunState → RunState
next program faults (One gate q) m = record m { state = λ p. m.state (preimage_at gate q p) }
next program faults (Two gate a b) m = record m { state = λ p. m.state (preimage_at_two gate a b p) }
next program faults (Collapse c r) m =
    after_collapse (measured_word program.qubits c) (correction program.qubits c) (is_some r) (record_changes faults r) m
next program faults (Fault f) m = record m { state = applied (happens faults f) (fault_word program f) m.state }
next program faults (Feedback w r) m = record m { state = applied (slice_index_or m.records r false) w m.state }

-- the run after these steps
abbrev pub run_from : Listing → List Bool → List ListedStep → RunState → RunState
run_from program faults [] m = m
run_from program faults (step ∷ steps) m = run_from program faults steps (next program faults step m)

-- a run before its first step
abbrev pub start : List Bool → RunState
start coins = record { state = start_state; coins = coins; records = [] }

-- the run after the first k steps of a run, with these faults and these coins
abbrev pub run_state_after : Listing → List Bool → List Bool → ℕ → RunState
run_state_after program faults coins k = run_from program faults (take k program.steps) (start coins)

-- the records of a run, in their order
abbrev pub records_of : Listing → List Bool → List Bool → List Bool
records_of program faults coins = (run_from program faults program.steps (start coins)).records
