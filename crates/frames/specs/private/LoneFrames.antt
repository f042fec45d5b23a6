-- A frame on its way through a program: before the collapse behind which it begins, where none is flipped, and behind it. A
-- collapse is the projective measurement inside a measurement or a reset. (Knill, Quantum computing with realistically noisy
-- devices, Nature 434, 39 (2005): Pauli frames.)
use Rattle.std.specs.Prelude.{◌≡◌, ℕ, Bool, true, false, List, ◌++◌, drop, length, replicate, Option, None, Some, slice_index_or}
use Rattle.pauli_word.specs.declared.letter.Letter.{Letter}
use Rattle.pauli_word.specs.Words.{no_letters}
use Rattle.step_model.specs.Frames.{Frame, begun, flips_after, flips_from, flips_of, first_word, words_collapsed}
use Rattle.step_model.specs.Listing.{Listing, ListedStep}
use Rattle.step_model.specs.declared.step.Place.{Place}
use Rattle.step_model.specs.declared.step.Place.TheVariants.{Start, After}

-- the collapse behind which a place is; None for the start
abbrev pub begins_behind : Place → Option ℕ
begins_behind (Start q) = None
begins_behind (After k) = Some k

-- a place that is behind it
abbrev pub place_behind : Option ℕ → Place
place_behind None = Start 0
place_behind (Some k) = After k

-- the word as which a frame begins: v, or, where `collapsed`, that of the collapse behind which it begins, if it is behind one
abbrev pub begins_as : Listing → Bool → Option ℕ → List Letter → List Letter
begins_as program true (Some k) v = first_word program (After k)
begins_as program true None v = v
begins_as program false behind v = v

-- these steps are left; before them were so many collapses and records, and so many collapses of them are before the collapse k
pub record IsAhead (program : Listing) (k ahead before made : ℕ) (steps : List ListedStep) : Type 0 where
  pub flips : (v : List Letter) → replicate before false ++ flips_after program.qubits v ahead made steps ≡ flips_of program (After k) v
  pub word : slice_index_or (words_collapsed program.qubits steps) ahead (no_letters program.qubits) ≡ first_word program (After k)

-- a frame that begins behind the collapse k, before it has begun
pub record IsWaiting (program : Listing) (k : ℕ) (v : List Letter) (steps : List ListedStep) (ahead : ℕ) (frame : Frame) (flips : List Bool) : Type 0 where
  pub before : ℕ
  pub made : ℕ
  pub left : IsAhead program k ahead before made steps
  pub flips_are : flips ≡ replicate before false
  pub frame_is : frame ≡ begun v made

-- a frame, with the flips so far: with those to come they are all; n qubits
abbrev pub IsOnWay : Listing → Option ℕ → List Letter → Bool → List ListedStep → Option ℕ → Frame → List Bool → Type 0
IsOnWay program (Some k) v collapsed steps (Some ahead) frame flips = IsWaiting program k v steps ahead frame flips
IsOnWay program None v collapsed steps (Some ahead) frame flips = ⊥
IsOnWay program behind v collapsed steps None frame flips =
    flips ++ flips_from program.qubits frame steps ≡ flips_of program (place_behind behind) (begins_as program collapsed behind v)

-- it is behind the first k steps
pub record IsLone (program : Listing) (behind : Option ℕ) (v : List Letter) (collapsed : Bool) (k : ℕ) (now_collapsed : Bool) (ahead : Option ℕ) (frame : Frame) (flips : List Bool) : Type 0 where
  pub same : now_collapsed ≡ collapsed
  pub size : length frame.word ≡ program.qubits
  pub way : IsOnWay program behind v collapsed (drop k program.steps) ahead frame flips
