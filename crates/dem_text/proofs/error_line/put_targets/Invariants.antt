use Rattle.std.proofs.Common.{length}
use Rattle.dem_text.proofs.CountedLemmas.{AreRead}
use Rattle.dem_text.proofs.error_line.put_targets.Given as goal

abbrev pub invariant-loop-rest : goal.invariant-loop-rest
invariant-loop-rest g l = AreRead l.fn.text l.rest l.targets.items

abbrev pub decreases-loop-rest : goal.decreases-loop-rest
decreases-loop-rest g l = length l.rest
