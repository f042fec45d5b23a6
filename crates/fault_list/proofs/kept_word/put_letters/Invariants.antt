use Rattle.std.proofs.Common.{◌≡◌, ◌≤◌, ◌+◌, ◌++◌, ℕ, length, take, true}
use Rattle.circuit_walk.specs.Letters.{AreSmall, letters_in}
use Rattle.step_model.specs.Listing.{word_of_terms}
use Rattle.step_model.specs.WellFormed.{TermsFit}
use Rattle.fault_list.specs.FaultLines.{word_text}
use Rattle.fault_list.specs.private.TermLetters.{is_ordered, starred_factors}
use Rattle.fault_list.proofs.kept_word.put_letters.Given as goal

-- the letters before those that are left ascend, and are put
abbrev pub invariant-loop-term : goal.invariant-loop-term
invariant-loop-term l =
    record {
      small : AreSmall l.left;
      after : l.at ≤ l.end;
      within : l.end + 6 ≤ l.at + 24704;
      kept : take l.at l.buffer ≡ take l.at l.fn.buffer;
      ordered : is_ordered (l.last + 1) (letters_in l.left) ≡ is_ordered 0 (letters_in l.terms);
      written : (qubits : ℕ) → TermsFit qubits (letters_in l.terms) → is_ordered 0 (letters_in l.terms) ≡ true
          → take l.end l.buffer ++ starred_factors (letters_in l.left) ≡ take l.at l.fn.buffer ++ word_text (word_of_terms qubits (letters_in l.terms));
    }

abbrev pub decreases-loop-term : goal.decreases-loop-term
decreases-loop-term l = length (letters_in l.left)
