-- What a run holds between two steps, and what a part of a step does to it.
-- (Runs of stabilizer circuits: Aaronson and Gottesman, Phys. Rev. A 70, 052328.)
use Rattle.std.specs.Prelude.{◌≡◌, ◌≤◌, ℕ, ◌+◌, Bool, if◌then◌else◌, List, [], ◌∷◌, ◌++◌, length, Option, is_some}
use Rattle.circuit_walk.specs.declared.step.Step.{Step}
use Rattle.circuit_walk.specs.Named.{IsStepOf}
use Rattle.circuit_walk.specs.Programs.{KeptProgram}
use Rattle.circuit_walk.specs.Steps.{listed, measured}
use Rattle.pauli_word.specs.declared.letter.Letter.{Letter}
use Rattle.pauli_word.specs.Parity.{exclusive_or}
use Rattle.pauli_word.specs.States.{State}
use Rattle.step_model.specs.Listing.{step_records}
use Rattle.step_model.specs.Runs.{RunState, corrected, correction}
use Rattle.tableau.specs.Rows.{Rows, row_count, state_of}
use Rattle.forward_sim.specs.SameRuns.{IsSameRun}

-- the rows of the tableau, the coins of the collapses to come, the records so far, and for how many records there is room
pub record Running : Type 0 where
  pub rows : Rows
  pub coins : List Bool
  pub records : List Bool
  pub room : ℕ

-- how many qubits there are
abbrev pub qubit_count : Running → ℕ
qubit_count r = row_count r.rows

-- the run between the two steps
abbrev pub run_of : Running → RunState
run_of r = record { state = state_of r.rows; coins = r.coins; records = r.records }

-- a run with another state
abbrev pub in_state : RunState → State → RunState
in_state m s = record m { state = s }

-- by which word the reset of a qubit whose letter was measured is corrected, where it is reset
abbrev pub correction_of : Running → Bool → Letter → ℕ → Option (List Letter)
correction_of r reset letter qubit = correction (qubit_count r) (measured (qubit_count r) reset letter qubit)

-- with one record more, where it has a number
abbrev pub with_record : Option ℕ → Bool → Running → Running
with_record number value r = record r { records = if is_some number then r.records ++ value ∷ [] else r.records }

-- the run after the end of a collapse that saw this outcome: the outcome is corrected, where there is a correction, and
-- recorded, inverted if `changes`, where it has a record
abbrev pub ended : Option (List Letter) → Bool → Bool → Bool → RunState → RunState
ended correction recorded seen changes m =
    record {
      state = corrected correction seen m.state;
      coins = m.coins;
      records = if recorded then m.records ++ exclusive_or seen changes ∷ [] else m.records;
    }

-- from `old` the run has come to one that is the same as m
pub record ComesTo (old new : Running) (m : RunState) : Type 0 where
  pub qubits : qubit_count new ≡ qubit_count old
  pub room : new.room ≡ old.room
  pub run : IsSameRun (qubit_count old) (run_of new) m

-- a step of a program can be taken on n qubits, where so many records are made and there is room for so many
pub record CanTake (program : KeptProgram) (step : Step) (n made most : ℕ) : Type 0 where
  pub of_program : IsStepOf program step
  pub qubits : n ≡ program.listing.qubits
  pub room : made + length (step_records (listed program.listing.qubits step)) ≤ most
