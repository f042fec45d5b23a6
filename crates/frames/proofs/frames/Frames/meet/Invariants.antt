use Rattle.std.proofs.Common.{◌≡◌, ℕ, length}
use Rattle.bit_rows.specs.Lanes.{lane_bit}
use Rattle.circuit_walk.specs.Letters.{AreSmall, letters_in}
use Rattle.pauli_word.specs.Parity.{exclusive_or}
use Rattle.pauli_word.specs.Words.{anticommute}
use Rattle.step_model.specs.Listing.{word_of_terms}
use Rattle.step_model.specs.WellFormed.{TermsFit}
use Rattle.frames.specs.LaneLetters.{word_in}
use Rattle.frames.proofs.frames.Frames.meet.Given as goal

-- the letters so far and those that are left make all
abbrev pub invariant-loop-term : goal.invariant-loop-term
invariant-loop-term g l =
    let n = length l.self.letters in
    record {
      small : AreSmall l.left;
      fit : TermsFit n (letters_in l.left);
      met :
          (j : ℕ)
          → exclusive_or (lane_bit j l.odd) (anticommute (word_in j l.self.letters) (word_of_terms n (letters_in l.left)))
          ≡ anticommute (word_in j l.self.letters) (word_of_terms n (letters_in l.letters));
    }

abbrev pub decreases-loop-term : goal.decreases-loop-term
decreases-loop-term g l = length (letters_in l.left)
