-- A program: the unrolled circuit, as a list of steps with what they name. A collapse is the projective measurement
-- inside a measurement or a reset; its coin is the outcome where that is random. Collapses are counted from 0 in the order
-- of the steps. Records and faults have the numbers that the steps say; in each program that is made of a text these too
-- go from 0 in the order of the steps, each once (WellFormed.antt). (Stim's circuit format.)
use Rattle.std.specs.Prelude.{ℕ, ℤ, List, [], ◌∷◌, Option, Some, Bool, true, false, slice_index_or}
use Rattle.gate_table.specs.declared.gate.Gate.{Gate}
use Rattle.step_model.specs.declared.step.Term.{Term}
use Rattle.pauli_word.specs.declared.letter.Letter.{Letter}
use Rattle.pauli_word.specs.declared.letter.Letter.TheVariants.{I}
use Rattle.pauli_word.specs.Words.{letters_product, no_letters, lone_letter}

-- what a fault does where it happens: it applies a product of letters at qubits, or it flips a record
pub data Effect : Type 0 where
  Applies : List Term → Effect
  Flips : ℕ → Effect

-- a fault: the text of its probability as it stands in the circuit, its bound, which is the floor of that probability
-- times 2^64, and what it does
pub record ListedFault : Type 0 where
  pub text : List ℕ
  pub bound : ℕ
  pub effect : Effect

-- what a collapse measures: a word of sign plus, or a letter at a qubit, which it then resets
pub data Measured : Type 0 where
  Word : List Letter → Measured
  Reset : Letter → ℕ → Measured

-- what becomes of an outcome: the number of its record, whether that is inverted, and the fault that flips it
pub record Recorded : Type 0 where
  pub number : ℕ
  pub inverted : Bool
  pub flip : Option ℕ

-- a step: a gate of one qubit; a gate of two; a collapse, which may make a record; a fault; a word that is applied
-- where an earlier record is 1
pub data ListedStep : Type 0 where
  One : Gate → ℕ → ListedStep
  Two : Gate → ℕ → ℕ → ListedStep
  Collapse : Measured → Option Recorded → ListedStep
  Fault : ℕ → ListedStep
  Feedback : List Letter → ℕ → ListedStep

-- a program: how many qubits, records and collapses it has, its steps, and what they name
pub record Listing : Type 0 where
  pub qubits : ℕ
  pub records : ℕ
  pub collapses : ℕ
  pub steps : List ListedStep
  -- the records of each detector and of each observable; one that is listed twice stands here twice
  pub detectors : List (List ℕ)
  pub observables : List (List ℕ)
  -- the coordinates of each detector
  pub coordinates : List (List ℤ)
  pub faults : List ListedFault

-- the word that a collapse measures, on n qubits
abbrev pub measured_word : ℕ → Measured → List Letter
measured_word n (Word w) = w
measured_word n (Reset letter q) = lone_letter n q letter

-- the word on n qubits that these letters at qubits multiply to, its power of i left out
abbrev pub word_of_terms : ℕ → List Term → List Letter
word_of_terms n [] = no_letters n
word_of_terms n (term ∷ terms) = letters_product (lone_letter n term.qubit term.letter) (word_of_terms n terms)

-- the word that a fault applies: the identity where it flips a record
abbrev pub effect_word : ℕ → Effect → List Letter
effect_word n (Applies terms) = word_of_terms n terms
effect_word n (Flips r) = no_letters n

-- a fault that does nothing, which a number stands for that no fault has
abbrev pub no_effect : ListedFault
no_effect = record { text = []; bound = 0; effect = Applies [] }

-- the fault with a number
abbrev pub fault_at : Listing → ℕ → ListedFault
fault_at program f = slice_index_or program.faults f no_effect

-- what it does
abbrev pub effect_at : Listing → ℕ → Effect
effect_at program f = (fault_at program f).effect

-- the word that it applies
abbrev pub fault_word : Listing → ℕ → List Letter
fault_word program f = effect_word program.qubits (effect_at program f)

-- whether a step is a collapse
abbrev pub is_collapse : ListedStep → Bool
is_collapse (Collapse c r) = true
is_collapse step = false

-- the records that a step makes: one or none
abbrev pub step_records : ListedStep → List ℕ
step_records (Collapse c (Some r)) = r.number ∷ []
step_records step = []

-- whether a letter is I
abbrev pub is_I : Letter → Bool
is_I I = true
is_I letter = false
