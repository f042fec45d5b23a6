use Rattle.std.proofs.Common.{◌≡◌, length}
use Rattle.circuit_walk.specs.Letters.{AreSmall, letters_in}
use Rattle.pauli_word.specs.Parity.{exclusive_or}
use Rattle.pauli_word.specs.Words.{anticommute}
use Rattle.step_model.specs.Listing.{word_of_terms}
use Rattle.step_model.specs.WellFormed.{TermsFit}
use Rattle.frames.proofs.words.anticommutes.Given as goal

-- the letters so far and those that are left make all
abbrev pub invariant-loop-term : goal.invariant-loop-term
invariant-loop-term g l =
    let w = l.word.letters in
    record {
      small : AreSmall l.left;
      fit : TermsFit (length w) (letters_in l.left);
      met :
          exclusive_or l.odd (anticommute w (word_of_terms (length w) (letters_in l.left)))
          ≡ anticommute w (word_of_terms (length w) (letters_in l.letters));
    }

abbrev pub decreases-loop-term : goal.decreases-loop-term
decreases-loop-term g l = length (letters_in l.left)
