-- Runs stay beside the reference run over faults that happen in none of them.
use Rattle.std.proofs.Common.{◌+◌, ℕ, List, ◌∷◌, [], drop, refl, subst}
use Rattle.std.specs.List.{list_all}
use Rattle.std.proofs.lemmas.Bool.{and_parts}
use Rattle.circuit_walk.specs.Walks.{AreFaultsFrom}
use Rattle.forward_sim.specs.References.{GoneOver, ReferenceRun, StandBefore, Words}
use Rattle.forward_sim.specs.References.Words.{Kept, Walked}
use Rattle.forward_sim.proofs.PassedFaults.{behind_each}
use Rattle.forward_sim.proofs.WalkedSteps.{drop-step}
use Rattle.step_model.specs.Listing.{Listing, ListedStep, Fault}
use Rattle.step_model.specs.Runs.{RunState, next}
use Rattle.step_model.specs.WellFormed.{IsWellFormed, step_fits}
use Rattle.step_model.proofs.StepNumbers.{fits_at}
use Rattle.frames.specs.LaneFrames.{LaneFrames}
use Rattle.frames.specs.private.Beside.{Beside}
use Rattle.frames.specs.private.Quiet.{HappensNowhere, NoneHappens}
use Rattle.frames.proofs.Beside.{beside-other}
use Rattle.frames.proofs.QuietFaults.{quiet-goes}

-- what says which words were replaced stands behind a fault as it stood before it
stand-behind : (program : Listing) (f : ℕ) (rest : List ListedStep) (m : RunState) (k : ℕ) (words : Words) → StandBefore program (Fault f ∷ rest) m k words → StandBefore program rest (next program [] (Fault f) m) k words
stand-behind program f rest m k (Kept replaced) h = h
stand-behind program f rest m k (Walked walk) h = record {
  qubits = h.qubits;
  room = h.room;
  state = h.state;
  records = h.records;
  coins = h.coins;
  zeros = h.zeros;
  fits = (and_parts (step_fits program (Fault f)) (list_all (step_fits program) rest) h.fits).1;
}

gone-behind : (program : Listing) (f : ℕ) (rest : List ListedStep) (m : RunState) (k : ℕ) (words : Words) → StandBefore program (Fault f ∷ rest) m k words → GoneOver program (Fault f) rest m k words
gone-behind program f rest m k words h = record {
  said = λ is. cc;
  entry = tt;
  stand = stand-behind program f rest m k words h;
}

pub beside-quiet : (program : Listing) (reference : ReferenceRun) (faults coins : List ℕ) (collapse : ℕ) (frames : LaneFrames) → IsWellFormed program
    → (k first count : ℕ) → AreFaultsFrom program.steps k first count → NoneHappens faults first (first + count)
    → Beside program reference faults coins (drop k program.steps) collapse frames → Beside program reference faults coins (drop (k + count) program.steps) collapse frames
beside-quiet program reference faults coins collapse frames well k first count are none before =
    let steps = program.steps in
    behind_each (λ i. Beside program reference faults coins (drop i steps) collapse frames) (HappensNowhere faults) steps
    (λ i f here quiet left.
    let rest = drop (i + 1) steps in
    let ahead = subst (λ s. Beside program reference faults coins s collapse frames) (drop-step steps i (Fault f) here) left in
    beside-other program reference reference faults coins (Fault f) rest collapse 0 frames frames
    (fits_at program i (Fault f) well here) refl ahead refl
    (gone-behind program f rest ahead.m collapse reference.words ahead.stand)
    (quiet-goes program faults f 0 frames quiet))
    count k first are none before
