-- A Pauli frame is an unsigned word that begins at a place, the start or just after the whole step of a collapse, and
-- is carried forward by the gates; a reset clears it at its qubit, and feedback multiplies it by its word where the frame
-- flips the record that is read. Each collapse has a flip: it is 1 where the frame anticommutes with the collapse's word,
-- and 0 for the collapses up to that at which the frame begins, itself included. It is that of its record too.
-- The coin pair of a target is two lists of coins: all zeros, and the flips of the frame that begins at the target's
-- place, as the word collapsed there or as Z at a qubit of the start. (A collapse is the projective measurement inside a
-- measurement or a reset; its coin is the outcome where that is random.) (Knill, Quantum computing with realistically
-- noisy devices, Nature 434, 39 (2005): Pauli frames.)
use Rattle.std.specs.Prelude.{ℕ, ◌+◌, ◌-◌, ◌==◌, Option, None, Some, length, Bool, false, not, if◌then◌else◌, List, [], ◌∷◌, ◌++◌, replicate, slice_index_or}
use Rattle.pauli_word.specs.declared.letter.Letter.{Letter}
use Rattle.pauli_word.specs.declared.letter.Letter.TheVariants.{Z}
use Rattle.pauli_word.specs.Words.{anticommute, no_letters, lone_letter, signed}
use Rattle.step_model.specs.declared.step.Place.{Place}
use Rattle.step_model.specs.declared.step.Place.TheVariants.{Start, After}
use Rattle.gate_table.specs.WordImages.{image_at, image_at_two}
use Rattle.step_model.specs.Listing.{Listing, ListedStep, One, Two, Collapse, Fault, Feedback, Recorded, measured_word, step_records, is_collapse}
use Rattle.step_model.specs.Sensitivities.{cleared, multiplied, collapse_word}

-- a frame: its word, and whether it flips each record so far
pub record Frame : Type 0 where
  pub word : List Letter
  pub records : List Bool

-- whether a frame flips the record that a collapse of w makes, as a list of one where it makes one
abbrev pub record_flip : Option Recorded → List Letter → List Letter → List Bool
record_flip None w v = []
record_flip (Some r) w v = anticommute v w ∷ []

-- a frame after a step, on n qubits
abbrev pub carried : ℕ → ListedStep → Frame → Frame
carried n (One gate q) v = record v { word = (image_at gate q (signed v.word false)).letters }
carried n (Two gate a b) v = record v { word = (image_at_two gate a b (signed v.word false)).letters }
carried n (Collapse c r) v =
    record { word = cleared c v.word; records = v.records ++ record_flip r (measured_word n c) v.word }
carried n (Fault f) v = v
carried n (Feedback w r) v = record v { word = multiplied (slice_index_or v.records r false) w v.word }

-- the flips of the collapses among these steps, of a frame begun before them
abbrev pub flips_from : ℕ → Frame → List ListedStep → List Bool
flips_from n v [] = []
flips_from n v (step ∷ steps) =
    (if is_collapse step then anticommute v.word (collapse_word n step) ∷ [] else []) ++ flips_from n (carried n step v) steps

-- a frame that begins as a word, and flips none of the records made before
abbrev pub begun : List Letter → ℕ → Frame
begun v made = record { word = v; records = replicate made false }

-- the same of a frame begun as the word v just after the collapse k of these steps, counted from 0, where this many records
-- were made before them: up to and with that collapse the flips are 0
abbrev pub flips_after : ℕ → List Letter → ℕ → ℕ → List ListedStep → List Bool
flips_after n v k made [] = []
flips_after n v k made (step ∷ steps) =
    let so_far = made + length (step_records step) in
    if not (is_collapse step) then flips_after n v k so_far steps
    else false ∷ (if k == 0 then flips_from n (begun v so_far) steps else flips_after n v (k - 1) so_far steps)

-- the words that these steps collapse
abbrev pub words_collapsed : ℕ → List ListedStep → List (List Letter)
words_collapsed n [] = []
words_collapsed n (step ∷ steps) = (if is_collapse step then collapse_word n step ∷ [] else []) ++ words_collapsed n steps

-- the flips, one a collapse, of a frame begun at a place as the word v
abbrev pub flips_of : Listing → Place → List Letter → List Bool
flips_of program (Start q) v = flips_from program.qubits (begun v 0) program.steps
flips_of program (After k) v = flips_after program.qubits v k 0 program.steps

-- the word as which the frame of a coin pair begins
abbrev pub first_word : Listing → Place → List Letter
first_word program (Start q) = lone_letter program.qubits q Z
first_word program (After k) = slice_index_or (words_collapsed program.qubits program.steps) k (no_letters program.qubits)

-- the first list of a coin pair: no coin is 1
abbrev pub zero_coins : Listing → List Bool
zero_coins program = replicate program.collapses false

-- the second: the flips of the frame begun at the place
abbrev pub pair_coins : Listing → Place → List Bool
pair_coins program place = flips_of program place (first_word program place)
