-- What takes the steps of a program, behind the first k of them: one run, and a reference run of which words are kept.
-- (How they are taken is this project's own.)
use Rattle.std.specs.Prelude.{◌≡◌, ℕ, Bool, List, [], true}
use Rattle.step_model.specs.Listing.{Listing}
use Rattle.forward_sim.specs.References.{Walking, walking_qubits, walking_run}
use Rattle.forward_sim.specs.private.Along.{GoesAlong, KeepsRest}
use Rattle.forward_sim.specs.private.Kept.{KeptSoFar}
use Rattle.forward_sim.specs.private.Machines.{Running, qubit_count, run_of}

-- a run in which these faults happen and the collapses take these coins
pub record IsRunning (program : Listing) (faults coins : List Bool) (k : ℕ) (happening : List Bool) (machine : Running) : Type 0 where
  pub same : happening ≡ faults
  pub along : GoesAlong program faults coins k (qubit_count machine) machine.room (run_of machine)

-- a reference run, and the words that it replaced, while there is room for all of them
pub record IsKept (program : Listing) (k : ℕ) (walk : Walking) (kept : KeptSoFar) : Type 0 where
  pub along : GoesAlong program [] [] k (walking_qubits walk) walk.room (walking_run walk)
  pub keeps : kept.whole ≡ true → KeepsRest program k (walking_run walk) kept.replaced
