use Rattle.std.proofs.Common.{◌≡◌, length}
use Rattle.circuit_walk.specs.Letters.{AreSmall, letters_in}
use Rattle.step_model.specs.WellFormed.{TermsFit}
use Rattle.frames.proofs.TermWords.{IsProductSoFar}
use Rattle.frames.proofs.words.product_of.Given as goal

-- the word so far, times that of the letters that are left, is the word of all
abbrev pub invariant-loop-term : goal.invariant-loop-term
invariant-loop-term g l =
    record {
      small : AreSmall l.left;
      fit : TermsFit l.qubits (letters_in l.left);
      size : length l.word.letters ≡ l.qubits;
      product : IsProductSoFar l.qubits (letters_in l.left) (letters_in l.letters) l.word.letters;
    }

abbrev pub decreases-loop-term : goal.decreases-loop-term
decreases-loop-term g l = length (letters_in l.left)
