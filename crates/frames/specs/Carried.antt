-- Frames that are carried over all steps of a program by faults alone, with no run beside them and no coins. Where no target is
-- random, whatever the coins are, the records that the frame of some faults flips say which targets these faults flip.
-- (Stim's frame simulator: Gidney, Quantum 5, 497 (2021).)
use Rattle.std.specs.Prelude.{◌≡◌, ◌<◌, ℕ, Bool, List, [], length, None}
use Rattle.run_laws.specs.Shifts.{carried_over}
use Rattle.step_model.specs.Frames.{Frame}
use Rattle.step_model.specs.Listing.{Listing}
use Rattle.step_model.specs.Sensitivities.{place_of}
use Rattle.step_model.specs.Targets.{targets_of}
use Rattle.frames.specs.Batches.{start_frame}

-- no target has a place, so none is random
abbrev pub NoneRandom : Listing → Type 0
NoneRandom program = (d : ℕ) → d < length (targets_of program) → place_of program d ≡ None

-- the frame behind the last step, where these faults happen
abbrev pub carried_frame : Listing → List Bool → Frame
carried_frame program faults = carried_over program [] faults program.steps (start_frame program.qubits)
