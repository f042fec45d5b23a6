-- The turns of a block one after another: what one of them does, the next does with the numbers of later records and faults.
-- (Stim's circuit format, github.com/quantumlib/Stim, doc/file_format_stim_circuit.md; how they are passed is this project's own.)
use Rattle.std.specs.Prelude.{◌≡◌, ◌<◌, ◌≤◌, ◌+◌, ℕ, List, length, All, Some, option_map, slice_get}
use Rattle.pauli_word.specs.declared.letter.Letter.{Letter}
use Rattle.step_model.specs.Listing.{Listing, ListedStep, ListedFault, Recorded, Effect, Applies, Flips, One, Two, Collapse, Fault, Feedback, fault_at}
use Rattle.step_model.specs.WellFormed.{step_faults}

-- a record with its number and that of its flip moved on
abbrev pub moved_recorded : ℕ → ℕ → Recorded → Recorded
moved_recorded records faults r =
    record { number = r.number + records; inverted = r.inverted; flip = option_map (λ f. f + faults) r.flip }

-- a step with the numbers of its records and of its faults moved on
abbrev pub moved_step : ℕ → ℕ → ListedStep → ListedStep
moved_step records faults (One gate q) = One gate q
moved_step records faults (Two gate a b) = Two gate a b
moved_step records faults (Collapse c r) = Collapse c (option_map (moved_recorded records faults) r)
moved_step records faults (Fault f) = Fault (f + faults)
moved_step records faults (Feedback w r) = Feedback w (r + records)

-- feedback from one place to another depends on no record below a number
abbrev pub AreFedFrom : List ListedStep → ℕ → ℕ → ℕ → Type 0
AreFedFrom steps low from to = (k r : ℕ) (w : List Letter) → from ≤ k → k < to → slice_get steps k ≡ Some (Feedback w r) → low ≤ r

-- each of the steps from one place to another is, with its numbers moved on, the one a period later
pub record Repeat (steps : List ListedStep) (from to period records faults : ℕ) : Type 0 where
  pub within : to + period ≤ length steps
  pub each : (k : ℕ) → from ≤ k → k < to → slice_get steps (k + period) ≡ option_map (moved_step records faults) (slice_get steps k)

-- what a fault does so many records later: it applies the same letters, or flips a record that many later
abbrev pub moved_effect : ℕ → Effect → Effect
moved_effect records (Applies terms) = Applies terms
moved_effect records (Flips r) = Flips (r + records)

-- a fault so many records later: its text and bound are the same
abbrev pub moved_fault : ℕ → ListedFault → ListedFault
moved_fault records f = record { text = f.text; bound = f.bound; effect = moved_effect records f.effect }

-- the faults of the steps from one place to another are, moved on, those whose numbers are so many more
pub record RepeatFaults (program : Listing) (from to records faults : ℕ) : Type 0 where
  pub each : (k : ℕ) (step : ListedStep) → from ≤ k → k < to → slice_get program.steps k ≡ Some step → All (λ f. fault_at program (f + faults) ≡ moved_fault records (fault_at program f)) (step_faults step)
