use Rattle.std.proofs.Common.{◌≡◌, length}
use Rattle.circuit_walk.specs.Letters.{AreSmall, letters_in}
use Rattle.step_model.specs.Listing.{word_of_terms}
use Rattle.step_model.specs.WellFormed.{TermsFit}
use Rattle.frames.specs.LaneFrames.{frame_in}
use Rattle.frames.specs.private.Followed.{multiplied_in}
use Rattle.frames.proofs.LaneFrameLaws.{LeadsOn}
use Rattle.frames.proofs.frames.Frames.times_letters.Given as goal

-- the letters that are left lead from here to where all lead
abbrev pub invariant-loop-term : goal.invariant-loop-term
invariant-loop-term g l =
    let n = length l.fn.self.letters in
    record {
      small : AreSmall l.left;
      fit : TermsFit n (letters_in l.left);
      qubits : length l.self.letters ≡ n;
      room : l.self.room ≡ l.fn.self.room;
      leads : LeadsOn n (letters_in l.left) l.runs (λ j. multiplied_in l.runs (word_of_terms n (letters_in l.letters)) j (frame_in j l.fn.self)) l.self;
    }

abbrev pub decreases-loop-term : goal.decreases-loop-term
decreases-loop-term g l = length (letters_in l.left)
