-- What a frame does to one collapse, which is the projective measurement inside a measurement or a reset. (Knill,
-- Quantum computing with realistically noisy devices, Nature 434, 39 (2005): Pauli frames.)
use Rattle.std.specs.Prelude.{ℕ, Bool, false, if◌then◌else◌, List, [], ◌∷◌, Option, None, Some, length, slice_index_or}
use Rattle.pauli_word.specs.declared.letter.Letter.{Letter}
use Rattle.pauli_word.specs.Words.{anticommute, lone_letter}
use Rattle.step_model.specs.Frames.{Frame}
use Rattle.step_model.specs.Listing.{ListedStep, is_collapse}
use Rattle.step_model.specs.Sensitivities.{collapse_word, multiplied}

-- whether a frame flips the outcome of a step, where the step is a collapse; n qubits
abbrev pub flip_of : ℕ → Frame → ListedStep → Option Bool
flip_of n v step = if is_collapse step then Some (anticommute v.word (collapse_word n step)) else None

-- the flip of a collapse's record, as a list: empty where the collapse makes no record
abbrev pub recorded_flips : Option ℕ → Bool → List Bool
recorded_flips None flip = []
recorded_flips (Some r) flip = flip ∷ []

-- a frame that takes in a letter at a qubit, where it flips this record
abbrev pub fed_back : ℕ → ℕ → Letter → Frame → Frame
fed_back r q letter v =
    record v { word = multiplied (slice_index_or v.records r false) (lone_letter (length v.word) q letter) v.word }
