-- The counts of a place, from those of a place so many turns of a block later.
-- (Stim's circuit format, github.com/quantumlib/Stim, doc/file_format_stim_circuit.md; how it is kept is this project's own.)
use Rattle.std.specs.Prelude.{◌≤◌, ◌-◌, ◌*◌, ℕ, List}
use Rattle.step_model.specs.Listing.{ListedStep}
use Rattle.circuit_walk.specs.declared.step.Counts.{Counts}
use Rattle.circuit_walk.specs.Programs.{KeptProgram}
use Rattle.circuit_walk.specs.Turns.{Repeat, RepeatFaults}
use Rattle.circuit_walk.specs.Walks.{faults_before, records_before}

-- a count that grows by as much in each of so many turns as in the next
pub record GrowsBy (count later turns : ℕ) : Type 0 where
  pub grows : count ≤ later
  pub enough : turns * (later - count) ≤ count

-- the count before these turns
abbrev pub count_back : ℕ → ℕ → ℕ → ℕ
count_back count later turns = count - turns * (later - count)

-- the same of counts
pub record GrowBy (counts later : Counts) (turns : ℕ) : Type 0 where
  pub records : GrowsBy counts.records later.records turns
  pub collapses : GrowsBy counts.collapses later.collapses turns
  pub faults : GrowsBy counts.faults later.faults turns

abbrev pub counts_back : Counts → Counts → ℕ → Counts
counts_back counts later turns = record {
  records = count_back counts.records later.records turns;
  collapses = count_back counts.collapses later.collapses turns;
  faults = count_back counts.faults later.faults turns;
}

-- how many more records come before a later place, and how many more faults
abbrev pub records_to : List ListedStep → ℕ → ℕ → ℕ
records_to steps place later = records_before steps later - records_before steps place

abbrev pub faults_to : List ListedStep → ℕ → ℕ → ℕ
faults_to steps place later = faults_before steps later - faults_before steps place

-- the steps from one place to another repeat, and so do their faults, where a turn goes on from there to a later place
pub record Again (program : KeptProgram) (from to later : ℕ) : Type 0 where
  pub repeat : Repeat program.listing.steps from to (later - to) (records_to program.listing.steps to later) (faults_to program.listing.steps to later)
  pub alike : RepeatFaults program.listing from to (records_to program.listing.steps to later) (faults_to program.listing.steps to later)
