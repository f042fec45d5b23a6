use Rattle.std.proofs.Common.{length}
use Rattle.dem_text.specs.private.Making.{HasPassed}
use Rattle.dem_text.proofs.front.Front.take_lines.Given as goal

abbrev pub invariant-loop-recent : goal.invariant-loop-recent
invariant-loop-recent g l = HasPassed l.text l.rest l.fn.self l.self

abbrev pub decreases-loop-recent : goal.decreases-loop-recent
decreases-loop-recent g l = length l.rest
