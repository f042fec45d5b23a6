-- The frames of 64 runs that go side by side, each a Pauli word and a flip for each record so far. (Bit-sliced Pauli
-- frames, as in Stim's frame simulator: Gidney, Quantum 5, 497 (2021).)
use Rattle.std.specs.Prelude.{◌≡◌, ℕ, Bool, [], ◌∷◌, ◌++◌, List, length, Option, is_some, if◌then◌else◌}
use Rattle.bit_rows.specs.Lanes.{lane}
use Rattle.step_model.specs.Frames.{Frame}
use Rattle.frames.specs.LaneLetters.{word_in}
use Rattle.frames.specs.declared.letters.LaneLetters.{LaneLetters}

-- the letters of all runs at each qubit, a word of flips for each record so far, and for how many records there is room
pub record LaneFrames : Type 0 where
  pub letters : List LaneLetters
  pub flips : List ℕ
  pub room : ℕ

-- the frame of run j
abbrev pub frame_in : ℕ → LaneFrames → Frame
frame_in j f = record { word = word_in j f.letters; records = lane j f.flips }

-- the frame of each run j becomes `go j` of it; the numbers of qubits and the room stay
pub record GoesTo (old new : LaneFrames) (go : ℕ → Frame → Frame) : Type 0 where
  pub qubits : length new.letters ≡ length old.letters
  pub room : new.room ≡ old.room
  pub frames : (j : ℕ) → frame_in j new ≡ go j (frame_in j old)

-- a frame after a collapse with this flip, which makes a record where it has a number
abbrev pub with_record : Option ℕ → Bool → Frame → Frame
with_record number flip v = record v { records = if is_some number then v.records ++ flip ∷ [] else v.records }
