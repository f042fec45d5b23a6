use Rattle.std.proofs.Common.{◌≡◌, ◌≤◌, ◌-◌}
use Rattle.step_model.specs.Pushed.{Pushes}
use Rattle.step_model.specs.Listing.{word_of_terms}
use Rattle.circuit_walk.specs.Letters.{letters_in}
use Rattle.fault_list.specs.private.FactorTexts.{is_none, joined}
use Rattle.fault_list.proofs.FactorLemmas.{factors_below}
use Rattle.fault_list.proofs.word.write_word.Given as goal

-- the factors of the qubits below this one were pushed
abbrev pub invariant-loop-from : goal.invariant-loop-from
invariant-loop-from g l =
    record {
      within : l.from ≤ l.qubits;
      first : l.first ≡ is_none (factors_below (word_of_terms l.qubits (letters_in l.terms)) l.from);
      pushed : Pushes g.W.Sink.taken g.W.Sink.failures l.fn.sink l.sink l.fn.out l.out (joined (factors_below (word_of_terms l.qubits (letters_in l.terms)) l.from));
    }

abbrev pub decreases-loop-from : goal.decreases-loop-from
decreases-loop-from g l = l.qubits - l.from
