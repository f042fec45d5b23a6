use Rattle.std.proofs.Common.{◌≡◌, true, length}
use Rattle.circuit_walk.specs.Letters.{AreSmall, letters_in}
use Rattle.pauli_word.specs.States.{applied}
use Rattle.step_model.specs.Listing.{word_of_terms}
use Rattle.step_model.specs.WellFormed.{TermsFit}
use Rattle.forward_sim.specs.private.Machines.{qubit_count, run_of}
use Rattle.forward_sim.proofs.TermWords.{AppliesRest}
use Rattle.forward_sim.proofs.machine.Machine.apply_letters.Given as goal

-- the letters that are left lead from here to where all lead
abbrev pub invariant-loop-term : goal.invariant-loop-term
invariant-loop-term g l =
    record {
      small : AreSmall l.left;
      fit : TermsFit (qubit_count l.fn.self) (letters_in l.left);
      qubits : qubit_count l.self ≡ qubit_count l.fn.self;
      rest : AppliesRest (qubit_count l.fn.self) (letters_in l.left) (run_of l.self).state (applied true (word_of_terms (qubit_count l.fn.self) (letters_in l.letters)) (run_of l.fn.self).state);
      coins : l.self.coins ≡ l.fn.self.coins;
      records : l.self.records ≡ l.fn.self.records;
      room : l.self.room ≡ l.fn.self.room;
    }

abbrev pub decreases-loop-term : goal.decreases-loop-term
decreases-loop-term g l = length (letters_in l.left)
