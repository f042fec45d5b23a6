-- A run that goes along with the steps of a program: the steps that are left make the records of the whole run.
-- (Aaronson and Gottesman, arXiv:quant-ph/0406196, section III; how a run is gone along with is this project's own.)
use Rattle.std.specs.Prelude.{◌≡◌, ℕ, Bool, List, [], ◌++◌, drop, Option}
use Rattle.step_model.specs.declared.step.Term.{Term}
use Rattle.step_model.specs.Listing.{Listing}
use Rattle.step_model.specs.Runs.{RunState, records_of, run_from, start}
use Rattle.forward_sim.specs.References.{AreEntries}

-- the steps behind the first k, run from here, make the records of the whole run
abbrev pub MakesRest : Listing → List Bool → List Bool → ℕ → RunState → Type 0
MakesRest program faults coins k m =
    (run_from program faults (drop k program.steps) m).records ≡ records_of program faults coins

-- so they do, on n qubits, with room for so many records
pub record GoesAlong (program : Listing) (faults coins : List Bool) (k n most : ℕ) (m : RunState) : Type 0 where
  pub qubits : n ≡ program.qubits
  pub room : most ≡ program.records
  pub rest : MakesRest program faults coins k m

-- what is kept of the steps that are left goes behind what is kept so far
abbrev pub KeepsRest : Listing → ℕ → RunState → List (Option (List Term)) → Type 0
KeepsRest program k m kept =
    (rest : List (Option (List Term))) → AreEntries program (drop k program.steps) m rest → AreEntries program program.steps (start []) (kept ++ rest)
