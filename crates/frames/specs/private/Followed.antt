-- How the frame of a run goes over a step. The frame says how the run differs from the reference run, in which no fault
-- happens and all coins are 0. Where the outcome of a collapse is random in the reference run, the other run's outcome is
-- its coin. Where the frame would give another outcome, it is first multiplied by a word of the reference run's state
-- that anticommutes with the word measured; that leaves the run's state the same. (Pauli frames: Knill, Nature 434, 39
-- (2005); with a reference sample, as in Stim's frame simulator: Gidney, Quantum 5, 497 (2021).)
use Rattle.std.specs.Prelude.{⊤, ◌≡◌, ℕ, Bool, true, List, [], length, Option, None, Some, option_map}
use Rattle.bit_rows.specs.Lanes.{lane_bit}
use Rattle.forward_sim.specs.References.{terms_in}
use Rattle.forward_sim.specs.declared.replaced_word.ReplacedWord.{ReplacedWord}
use Rattle.pauli_word.specs.declared.letter.Letter.{Letter}
use Rattle.pauli_word.specs.Parity.{exclusive_or}
use Rattle.pauli_word.specs.Words.{anticommute, lone_letter, no_letters}
use Rattle.circuit_walk.specs.Steps.{measured}
use Rattle.step_model.specs.declared.step.Term.{Term}
use Rattle.step_model.specs.Frames.{Frame}
use Rattle.step_model.specs.Listing.{Listing, ListedStep, One, Two, Collapse, Fault, Feedback, word_of_terms, measured_word}
use Rattle.step_model.specs.Sensitivities.{cleared, multiplied}
use Rattle.step_model.specs.WellFormed.{TermsFit}
use Rattle.run_laws.specs.Shifts.{carried_with}
use Rattle.frames.specs.declared.letters.LaneLetters.{LaneLetters}
use Rattle.frames.specs.LaneFrames.{LaneFrames, frame_in}

-- a frame, multiplied where b by the word that is kept of a collapse, if there is one
abbrev pub turned_where : ℕ → Option (List Term) → Bool → Frame → Frame
turned_where n None b v = v
turned_where n (Some terms) b v = record v { word = multiplied b (word_of_terms n terms) v.word }

-- a frame that comes to a collapse of w with this coin, where the reference run keeps these letters at qubits of it
abbrev pub turned : ℕ → Option (List Term) → Bool → List Letter → Frame → Frame
turned n replaced coin w v = turned_where n replaced (exclusive_or coin (anticommute v.word w)) v

-- a frame that comes to any step: only a collapse turns it
abbrev pub turned_at : ℕ → Option (List Term) → Bool → ListedStep → Frame → Frame
turned_at n replaced coin (One gate q) v = v
turned_at n replaced coin (Two gate a b) v = v
turned_at n replaced coin (Collapse c r) v = turned n replaced coin (measured_word n c) v
turned_at n replaced coin (Fault f) v = v
turned_at n replaced coin (Feedback w r) v = v

-- the frame after the step, where these faults happen
abbrev pub followed : Listing → List Bool → Option (List Term) → Bool → ListedStep → Frame → Frame
followed program faults replaced coin step v =
    carried_with program [] faults step (turned_at program.qubits replaced coin step v)

-- a frame whose letters are all I
abbrev pub IsStill : Frame → Type 0
IsStill v = v.word ≡ no_letters (length v.word)

-- all frames are such
abbrev pub AreStill : LaneFrames → Type 0
AreStill f = (j : ℕ) → IsStill (frame_in j f)

-- the letters at qubits of a word that is kept of a collapse, if any
abbrev pub terms_of : Option ReplacedWord → Option (List Term)
terms_of replaced = option_map terms_in replaced

-- these, or no letters
abbrev pub terms_or_none : Option (List Term) → List Term
terms_or_none None = []
terms_or_none (Some terms) = terms

-- letters at qubits that are kept of a collapse of w, if any, are at n qubits, and their word anticommutes with w
abbrev pub Turns : ℕ → Option (List Term) → List Letter → Type 0
Turns n None w = ⊤
Turns n (Some terms) w = TermsFit n terms × (anticommute w (word_of_terms n terms) ≡ true)

-- so it is where a step is a collapse
abbrev pub TurnsAt : ℕ → Option (List Term) → ListedStep → Type 0
TurnsAt n replaced (One gate q) = ⊤
TurnsAt n replaced (Two gate a b) = ⊤
TurnsAt n replaced (Collapse c r) = Turns n replaced (measured_word n c)
TurnsAt n replaced (Fault f) = ⊤
TurnsAt n replaced (Feedback w r) = ⊤

-- frames before the first record
abbrev pub letters_alone : List LaneLetters → LaneFrames
letters_alone letters = record { letters = letters; flips = []; room = 0 }

-- what is done to the frame of each run j: where the run is one of these, it is multiplied by w
abbrev pub multiplied_in : ℕ → List Letter → ℕ → Frame → Frame
multiplied_in runs w = λ j v. record v { word = multiplied (lane_bit j runs) w v.word }

-- it comes to a collapse of w, with its coin
abbrev pub turned_in : ℕ → Option (List Term) → ℕ → List Letter → ℕ → Frame → Frame
turned_in n replaced coins w = λ j v. turned n replaced (lane_bit j coins) w v

-- and then the qubit of a letter that was measured is reset, where it is
abbrev pub reset_in : ℕ → Option (List Term) → ℕ → Bool → Letter → ℕ → ℕ → Frame → Frame
reset_in n replaced coins reset letter qubit =
    λ j v. record v { word = cleared (measured n reset letter qubit) (turned n replaced (lane_bit j coins) (lone_letter n qubit letter) v).word }

-- whether the frame of run j, which comes to a collapse of w, flips its outcome
abbrev pub flips_in : ℕ → Option (List Term) → ℕ → List Letter → LaneFrames → ℕ → Bool
flips_in n replaced coins w f j = anticommute (turned n replaced (lane_bit j coins) w (frame_in j f)).word w
