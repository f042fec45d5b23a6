use Rattle.std.proofs.Common.{◌≡◌, ℕ, ◌+◌, ◌<◌, length, get_or}
use Rattle.pauli_word.specs.declared.letter.Letter.TheVariants.{I}
use Rattle.pauli_word.specs.Letters.{letter_product}
use Rattle.circuit_walk.specs.Letters.{AreSmall, letters_in}
use Rattle.fault_list.specs.private.TermLetters.{letter_in}
use Rattle.fault_list.proofs.letters.gather.Given as goal

-- each letter so far, times that of the terms that are left, is the letter of all
abbrev pub invariant-loop-term : goal.invariant-loop-term
invariant-loop-term l =
    record {
      small : AreSmall l.left;
      so_far : (k : ℕ) → k < length l.letters → letter_product (get_or l.letters k I) (letter_in (letters_in l.left) (l.from + k)) ≡ letter_in (letters_in l.terms) (l.from + k);
    }

abbrev pub decreases-loop-term : goal.decreases-loop-term
decreases-loop-term l = length (letters_in l.left)
