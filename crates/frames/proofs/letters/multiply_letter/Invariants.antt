use Rattle.std.proofs.Common.{◌≤◌, length, drop}
use Rattle.step_model.specs.Listing.{word_of_terms}
use Rattle.forward_sim.specs.References.{terms_at}
use Rattle.frames.specs.private.Followed.{letters_alone, multiplied_in}
use Rattle.frames.specs.LaneFrames.{GoesTo}
use Rattle.frames.proofs.letters.multiply_letter.Given as goal

-- the letters from a place on are multiplied in
abbrev pub invariant-loop-left : goal.invariant-loop-left
invariant-loop-left l =
    record {
      within : l.left ≤ length l.qubits;
      so_far : GoesTo (letters_alone l.fn.letters) (letters_alone l.letters) (multiplied_in l.fn.runs (word_of_terms (length l.fn.letters) (drop l.left (terms_at l.letter l.qubits))));
    }

abbrev pub decreases-loop-left : goal.decreases-loop-left
decreases-loop-left l = l.left
