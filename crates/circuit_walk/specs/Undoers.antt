-- What an undoer of steps is handed, and what it has done then, where `holds` says what holds of it behind so many steps of a
-- program, from where it began, and `keeps` what holds of it also where memory ran out. (How steps are handed out is this
-- project's own.)
use Rattle.std.specs.Prelude.{◌≡◌, ◌+◌, ℕ, OnOk, Result, Some, slice_get}
use Rattle.circuit_walk.specs.declared.step.Step.{Step}
use Rattle.circuit_walk.specs.Named.{IsStepOf}
use Rattle.circuit_walk.specs.Programs.{KeptProgram}
use Rattle.circuit_walk.specs.Steps.{listed}

-- a step is the last of those of the program that an undoer stands behind
abbrev pub IsLast : {U : Type 0} → (KeptProgram → U → ℕ → U → Type 0) → KeptProgram → U → Step → Type 0
IsLast {U} holds program undoer step =
    IsStepOf program step
    × ((begun : U) × (k : ℕ) × holds program begun (k + 1) undoer
    × (slice_get program.listing.steps k ≡ Some (listed program.listing.qubits step)))

-- an undoer stands behind so many steps, where memory did not run out
pub record IsBackAt {U V E : Type 0} (holds : KeptProgram → U → ℕ → U → Type 0) (keeps : KeptProgram → U → U → Type 0) (program : KeptProgram) (begun : U) (k : ℕ) (undoer : U) (result : Result V E) : Type 0 where
  pub stands : OnOk result (holds program begun k undoer)
  pub lasts : keeps program begun undoer

-- it has undone that step
abbrev pub HasUndone : {U V E : Type 0} → (KeptProgram → U → ℕ → U → Type 0) → (KeptProgram → U → U → Type 0) → KeptProgram → U → U → Step → Result V E → Type 0
HasUndone {U} holds keeps program old new step result =
    (begun : U) (k : ℕ) → holds program begun (k + 1) old
    → slice_get program.listing.steps k ≡ Some (listed program.listing.qubits step)
    → IsBackAt holds keeps program begun k new result
