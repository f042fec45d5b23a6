use Rattle.std.proofs.Common.{◌≡◌, length, drop}
use Rattle.backward.specs.private.Collapses.{times_terms}
use Rattle.backward.proofs.collapse.multiply.Given as goal

-- the terms that are left make of the words what all terms make of those at the start
abbrev pub invariant-loop-term : goal.invariant-loop-term
invariant-loop-term g l =
    record {
      qubits : (g.T.Tracker.tracked l.tracker).qubits ≡ (g.T.Tracker.tracked l.fn.tracker).qubits;
      words : length (g.T.Tracker.tracked l.tracker).words ≡ length (g.T.Tracker.tracked l.fn.tracker).words;
      left : times_terms l.targets (drop l.term-index l.terms) (g.T.Tracker.tracked l.tracker) ≡ times_terms l.targets l.terms (g.T.Tracker.tracked l.fn.tracker);
    }
