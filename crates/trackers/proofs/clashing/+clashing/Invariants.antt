use Rattle.std.proofs.Common.{length}
use Rattle.trackers.proofs.clashing.+clashing.Given as goal

abbrev pub decreases-clashing : goal.decreases-clashing
decreases-clashing g l = length l.terms.now
