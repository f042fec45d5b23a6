-- The sensitivity of a target between two steps of a program: an unsigned word with a list of records so far. After the
-- last step it is the identity, with the target's records. Going back over a gate the word becomes its preimage; over a
-- collapse it is cleared at the qubit of a reset, and then multiplied by the collapsed word where its record is listed an
-- odd number of times; over feedback, whose word is applied where a record is 1, that record is added where the
-- feedback's word anticommutes with the sensitivity's; over a fault it stays.
-- Of a target without a place, as said below, it tells what flips the target, whatever the coins: a Pauli fault exactly
-- where it anticommutes with the word just after it, and the flip of a record exactly where the record is listed there an
-- odd number of times. That is a law of run_laws, and no part of these definitions. Of a target with a place it isn't so:
-- the coins change that target too.
-- The place of a target is the latest collapse whose word anticommutes with the sensitivity just after it. Where there
-- is no such collapse it is the start, at the lowest qubit at which the sensitivity there has X or Y; where there is no
-- such qubit the target has no place. (A collapse is the projective measurement inside a measurement or a reset.)
-- (Gottesman, arXiv:quant-ph/9807006: words carried through a circuit.)
use Rattle.std.specs.Prelude.{◌+◌, ℕ, Bool, true, false, if◌then◌else◌, List, [], ◌∷◌, Option, None, Some, option_map, slice_set}
use Rattle.pauli_word.specs.declared.letter.Letter.{Letter}
use Rattle.pauli_word.specs.declared.letter.Letter.TheVariants.{I}
use Rattle.pauli_word.specs.Words.{letters_product, no_letters, anticommute, signed}
pub use Rattle.pauli_word.specs.Words.{has_X_or_Y, lowest_X_or_Y}
use Rattle.step_model.specs.declared.step.Place.{Place}
use Rattle.step_model.specs.declared.step.Place.TheVariants.{Start, After}
use Rattle.gate_table.specs.WordImages.{preimage_at, preimage_at_two}
use Rattle.step_model.specs.Listing.{Listing, ListedStep, One, Two, Collapse, Fault, Feedback, Measured, Word, Reset, Recorded, measured_word, is_collapse}
use Rattle.step_model.specs.Targets.{is_listed, target_at}

-- a sensitivity: its word, and its records. A record that is listed an even number of times doesn't count
pub record Sensitivity : Type 0 where
  pub word : List Letter
  pub records : List ℕ

-- a word with I at the qubit of the reset, where a collapse is that of a reset
abbrev pub cleared : Measured → List Letter → List Letter
cleared (Word w) v = v
cleared (Reset letter q) v = slice_set v q I

-- whether a collapse's record is listed an odd number of times
abbrev pub record_counts : List ℕ → Option Recorded → Bool
record_counts named None = false
record_counts named (Some r) = is_listed named r.number

-- the word w, multiplied by v where b
abbrev pub multiplied : Bool → List Letter → List Letter → List Letter
multiplied b v w = if b then letters_product v w else w

-- the sensitivity before a step, from that after it, on n qubits
abbrev pub sensitivity_before : ℕ → ListedStep → Sensitivity → Sensitivity
sensitivity_before n (One gate q) s = record s { word = (preimage_at gate q (signed s.word false)).letters }
sensitivity_before n (Two gate a b) s = record s { word = (preimage_at_two gate a b (signed s.word false)).letters }
sensitivity_before n (Collapse c r) s =
    record s { word = multiplied (record_counts s.records r) (measured_word n c) (cleared c s.word) }
sensitivity_before n (Fault f) s = s
sensitivity_before n (Feedback w r) s = record s { records = if anticommute s.word w then r ∷ s.records else s.records }

-- the sensitivity, of the target with these records, before these steps, which are the program's last
abbrev pub sensitivity : ℕ → List ℕ → List ListedStep → Sensitivity
sensitivity n named [] = record { word = no_letters n; records = named }
sensitivity n named (step ∷ steps) = sensitivity_before n step (sensitivity n named steps)

-- the word that a step collapses; the identity where it is no collapse
abbrev pub collapse_word : ℕ → ListedStep → List Letter
collapse_word n (Collapse c r) = measured_word n c
collapse_word n step = no_letters n

-- the latest collapse from a step on whose word anticommutes with the sensitivity after it: one after the step where
-- there is one, otherwise the step itself where it is such a collapse
abbrev pub later_or_here : ListedStep → Option ℕ → Bool → Option ℕ
later_or_here step (Some k) anticommutes = Some ((if is_collapse step then 1 else 0) + k)
later_or_here step None true = Some 0
later_or_here step None false = None

-- the latest of these collapses, counted from the first of them, whose word anticommutes with the sensitivity after it
abbrev pub latest_place : ℕ → List ℕ → List ListedStep → Option ℕ
latest_place n named [] = None
latest_place n named (step ∷ steps) =
    later_or_here step (latest_place n named steps) (anticommute (collapse_word n step) (sensitivity n named steps).word)

-- the place after a collapse, where there is one; otherwise at the start, by the sensitivity's word there
abbrev pub after_or_start : Option ℕ → List Letter → Option Place
after_or_start (Some k) w = Some (After k)
after_or_start None w = option_map Start (lowest_X_or_Y w)

-- the place of a target
abbrev pub place_of : Listing → ℕ → Option Place
place_of program d =
    after_or_start
    (latest_place program.qubits (target_at program d) program.steps)
    (sensitivity program.qubits (target_at program d) program.steps).word
