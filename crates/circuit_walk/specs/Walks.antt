-- Faults that stand in a row, which are passed at once.
-- (Stim's circuit format, github.com/quantumlib/Stim, doc/file_format_stim_circuit.md; how they are passed is this project's own.)
use Rattle.std.specs.Prelude.{◌≡◌, ◌<◌, ◌≤◌, ◌+◌, ◌-◌, ℕ, Bool, true, false, List, Option, Some, length, slice_get, take}
use Rattle.step_model.specs.Listing.{ListedStep, Fault}
use Rattle.step_model.specs.WellFormed.{faults_named, records_made}

-- whether there is a step, and it is a fault
abbrev pub is_fault : Option ListedStep → Bool
is_fault (Some (Fault n)) = true
is_fault other = false

-- how many records the first k steps make, and how many faults they name
abbrev pub records_before : List ListedStep → ℕ → ℕ
records_before steps k = length (records_made (take k steps))

abbrev pub faults_before : List ListedStep → ℕ → ℕ
faults_before steps k = length (faults_named (take k steps))

-- going back over all that passes a test, from one number to another, which is `from` or more
pub record PassesBack (test : ℕ → Bool) (from old new : ℕ) : Type 0 where
  pub above : from ≤ new
  pub below : new ≤ old
  pub each : (k : ℕ) → new ≤ k → k < old → test k ≡ true
  pub stops : from < new → test (new - 1) ≡ false

-- so many steps from a place on are faults, with the numbers that follow those before it
abbrev pub ArePassed : List ListedStep → ℕ → ℕ → Type 0
ArePassed steps place count = (i : ℕ) → i < count → slice_get steps (place + i) ≡ Some (Fault (faults_before steps place + i))

-- so many steps from a place on are faults, of which the first has this number
abbrev pub AreFaultsFrom : List ListedStep → ℕ → ℕ → ℕ → Type 0
AreFaultsFrom steps place first count = (i : ℕ) → i < count → slice_get steps (place + i) ≡ Some (Fault (first + i))
