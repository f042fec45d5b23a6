use Rattle.std.proofs.Common.{length}
use Rattle.dem_text.proofs.CountedLemmas.{AreCounted}
use Rattle.dem_text.proofs.error_line.extent_in.Given as goal

abbrev pub invariant-loop-rest : goal.invariant-loop-rest
invariant-loop-rest l = AreCounted l.fn.text l.rest l.found

abbrev pub decreases-loop-rest : goal.decreases-loop-rest
decreases-loop-rest l = length l.rest
