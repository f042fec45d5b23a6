-- What a taker of steps is handed, and what it has done then, where `stands` says what holds of it behind so many steps of a
-- program, from where it began. (How steps are handed out is this project's own.)
use Rattle.std.specs.Prelude.{◌≡◌, ◌+◌, ℕ, Some, slice_get}
use Rattle.circuit_walk.specs.declared.step.Step.{Step}
use Rattle.circuit_walk.specs.Named.{IsStepOf}
use Rattle.circuit_walk.specs.Programs.{KeptProgram}
use Rattle.circuit_walk.specs.Steps.{listed}

-- a step is that of the program behind those that a taker took
abbrev pub IsFaced : {T : Type 0} → (KeptProgram → T → ℕ → T → Type 0) → KeptProgram → T → Step → Type 0
IsFaced {T} stands program taker step =
    IsStepOf program step
    × ((begun : T) × (k : ℕ) × stands program begun k taker
    × (slice_get program.listing.steps k ≡ Some (listed program.listing.qubits step)))

-- it has taken that step
abbrev pub HasTaken : {T : Type 0} → (KeptProgram → T → ℕ → T → Type 0) → KeptProgram → T → T → Step → Type 0
HasTaken {T} stands program old new step =
    (begun : T) (k : ℕ) → stands program begun k old
    → slice_get program.listing.steps k ≡ Some (listed program.listing.qubits step)
    → stands program begun (k + 1) new
