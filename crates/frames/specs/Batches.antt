-- 64 runs of a program, followed beside its reference run, in which no fault happens and all coins are 0. For each record
-- a word says in which runs it differs from the reference run's. (Stim's frame simulator: Gidney, Quantum 5, 497 (2021).)
use Rattle.std.specs.Prelude.{◌≡◌, ℕ, Bool, true, false, List, [], length, slice_index_or}
use Rattle.forward_sim.specs.References.{IsReferenceOf, ReferenceRun}
use Rattle.forward_sim.specs.Shots.{is_tossed}
use Rattle.forward_sim.specs.declared.span.Span.{Span}
use Rattle.bit_rows.specs.Lanes.{lane}
use Rattle.pauli_word.specs.Words.{no_letters}
use Rattle.run_laws.specs.Shifts.{flipped_by}
use Rattle.step_model.specs.Frames.{Frame}
use Rattle.step_model.specs.Listing.{Listing}
use Rattle.step_model.specs.Runs.{records_of}
use Rattle.frames.specs.LaneFrames.{LaneFrames, frame_in}

-- the reference run, a word of flips for each record, and for how many qubits and records there is memory
pub record Followed : Type 0 where
  pub reference : ReferenceRun
  pub flips : List ℕ
  pub qubits : ℕ
  pub room : ℕ

-- the records of a run
abbrev pub shot_records : ℕ → Followed → List Bool
shot_records shot batch = flipped_by (lane shot batch.flips) batch.reference.records

-- the batch is one of this program
pub record IsBatchOf (program : Listing) (batch : Followed) : Type 0 where
  pub reference : IsReferenceOf program batch.reference
  pub records : length batch.reference.records ≡ program.records
  pub qubits : batch.qubits ≡ program.qubits
  pub room : batch.room ≡ program.records

-- each run's records are those of the program's run with its faults and coins
abbrev pub AreRuns : Listing → List ℕ → List ℕ → Followed → Type 0
AreRuns program faults coins batch =
    (shot : ℕ) → shot_records shot batch ≡ records_of program (lane shot faults) (lane shot coins)

-- the coins of these collapses don't count: whatever faults happen, they change no record
abbrev pub DontCount : Listing → Span → Type 0
DontCount program span =
    (faults first second : List Bool)
    → length first ≡ program.collapses → length second ≡ program.collapses
    → ((k : ℕ) → is_tossed span k ≡ true → slice_index_or first k false ≡ slice_index_or second k false)
    → records_of program faults first ≡ records_of program faults second

-- the frame of a run at its start
abbrev pub start_frame : ℕ → Frame
start_frame n = record { word = no_letters n; records = [] }

-- all frames are those of the start
abbrev pub AreAtStart : LaneFrames → Type 0
AreAtStart f = (j : ℕ) → frame_in j f ≡ start_frame (length f.letters)
