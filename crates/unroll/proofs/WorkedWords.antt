-- Words in which the program of a short text is written down, or its refusal.
use Rattle.std.proofs.Common.{ℕ, List, [], ◌∷◌, codes, true, false, Option, None, Some, Result, Err}
use Rattle.pauli_word.specs.declared.letter.Letter.{Letter}
use Rattle.step_model.specs.declared.fault.Cause.{Cause}
use Rattle.step_model.specs.declared.fault.Fault.{Fault}
use Rattle.step_model.specs.declared.step.Term.{Term}
use Rattle.step_model.specs.Listing.{Listing, ListedStep, ListedFault, Effect, Recorded, Collapse, Word, Applies}

-- the program of so many qubits that has these steps, and no records, detectors, observables or faults
abbrev pub quiet : ℕ → List ListedStep → Listing
quiet qubits steps =
    record {
      qubits = qubits;
      records = 0;
      collapses = 0;
      steps = steps;
      detectors = [];
      observables = [];
      coordinates = [];
      faults = [];
    }

-- likewise with so many records, each made by a collapse
abbrev pub measuring : ℕ → ℕ → List ListedStep → Listing
measuring qubits records steps = record (quiet qubits steps) { records = records; collapses = records }

-- what becomes of an outcome: the record of this number is the outcome itself, or its inverse, and may be flipped by a fault
abbrev pub kept : ℕ → Option Recorded
kept number = Some (record { number = number; inverted = false; flip = None })

abbrev pub inverted : ℕ → Option Recorded
inverted number = Some (record { number = number; inverted = true; flip = None })

abbrev pub flipped : ℕ → ℕ → Option Recorded
flipped number fault = Some (record { number = number; inverted = false; flip = Some fault })

abbrev pub flipped_inverse : ℕ → ℕ → Option Recorded
flipped_inverse number fault = Some (record { number = number; inverted = true; flip = Some fault })

-- a measurement of a word, whose outcome is the record of this number
abbrev pub measured : List Letter → ℕ → ListedStep
measured word number = Collapse (Word word) (kept number)

-- a letter at a qubit, and a fault's effect that applies it alone
abbrev pub term : Letter → ℕ → Term
term letter qubit = record { qubit = qubit; letter = letter }

abbrev pub applies : Letter → ℕ → Effect
applies letter qubit = Applies (term letter qubit ∷ [])

-- faults of some probabilities: each has its text, and as its bound its product with 2^64
abbrev pub certain : Effect → ListedFault
certain effect = record { text = codes "1"; bound = 18_446_744_073_709_551_616; effect = effect }

abbrev pub half : Effect → ListedFault
half effect = record { text = codes "0.5"; bound = 9_223_372_036_854_775_808; effect = effect }

abbrev pub quarter : Effect → ListedFault
quarter effect = record { text = codes "0.25"; bound = 4_611_686_018_427_387_904; effect = effect }

abbrev pub eighth : Effect → ListedFault
eighth effect = record { text = codes "0.125"; bound = 2_305_843_009_213_693_952; effect = effect }

-- the refusal for a cause, with the line at fault
abbrev pub refused : Cause → ℕ → Result Listing Fault
refused cause line = Err (record { cause = cause; line = line })
