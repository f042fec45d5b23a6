-- Which faults hit a target: a fault hits it where its word anticommutes with the sensitivity of the target just after
-- it, or where it flips a record that the sensitivity there lists an odd number of times. (Gottesman,
-- arXiv:quant-ph/9807006: words carried through a circuit; Stim's detector error model format.)
use Rattle.std.specs.Prelude.{◌==◌, ℕ, Bool, false, ◌&&◌, ◌||◌, List, [], ◌∷◌, Option, None, Some}
use Rattle.pauli_word.specs.Words.{anticommute}
use Rattle.step_model.specs.Listing.{Listing, ListedStep, Collapse, Fault, Recorded, fault_word}
use Rattle.step_model.specs.Targets.{target_at}
use Rattle.step_model.specs.Sensitivities.{Sensitivity, sensitivity, record_counts}

-- whether the fault that flips a record, where there is one, is this fault
abbrev pub is_flip_of : ℕ → Option ℕ → Bool
is_flip_of f None = false
is_flip_of f (Some g) = g == f

-- the same of what becomes of an outcome, where it is recorded
abbrev pub is_recorded_flip : ℕ → Option Recorded → Bool
is_recorded_flip f None = false
is_recorded_flip f (Some r) = is_flip_of f r.flip

-- whether a fault hits a target at a step, where s is the sensitivity after it
abbrev pub hits_at : Listing → ℕ → ListedStep → Sensitivity → Bool
hits_at program f (Collapse c r) s = is_recorded_flip f r && record_counts s.records r
hits_at program f (Fault g) s = g == f && anticommute s.word (fault_word program f)
hits_at program f step s = false

-- whether a fault hits the target with these records at one of these steps, which are the program's last
abbrev pub hits_among : Listing → List ℕ → ℕ → List ListedStep → Bool
hits_among program named f [] = false
hits_among program named f (step ∷ steps) =
    hits_at program f step (sensitivity program.qubits named steps) || hits_among program named f steps

-- whether a fault hits a target
abbrev pub is_hit : Listing → ℕ → ℕ → Bool
is_hit program d f = hits_among program (target_at program d) f program.steps
