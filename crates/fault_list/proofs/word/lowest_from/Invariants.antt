use Rattle.std.proofs.Common.{◌≤◌, ℕ, length}
use Rattle.circuit_walk.specs.Letters.{AreSmall, letters_in}
use Rattle.fault_list.proofs.SpanLemmas.{NoneBetween}
use Rattle.fault_list.proofs.word.lowest_from.Given as goal

-- below the lowest so far only the terms that are left can be
abbrev pub invariant-loop-term : goal.invariant-loop-term
invariant-loop-term l =
    record {
      small : AreSmall l.left;
      from : l.from ≤ l.lowest;
      within : l.lowest ≤ l.qubits;
      lowest : (m : ℕ) → m ≤ l.lowest → NoneBetween (letters_in l.left) l.from m → NoneBetween (letters_in l.terms) l.from m;
    }

abbrev pub decreases-loop-term : goal.decreases-loop-term
decreases-loop-term l = length (letters_in l.left)
