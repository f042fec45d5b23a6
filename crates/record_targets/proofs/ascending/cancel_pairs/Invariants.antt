use Rattle.record_targets.proofs.PairLemmas.{IsCancelled}
use Rattle.record_targets.proofs.ascending.cancel_pairs.Given as goal

abbrev pub invariant-loop-i : goal.invariant-loop-i
invariant-loop-i l = IsCancelled l.fn.list l.list l.i l.kept
