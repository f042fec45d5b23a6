use Rattle.std.proofs.Common.{length}
use Rattle.dem_text.specs.private.Keeping.{IsKeeping}
use Rattle.dem_text.proofs.MakingLemmas.{IsKeepingOn}
use Rattle.dem_text.proofs.kept.keep_lines.Given as goal

abbrev pub invariant-loop-number : goal.invariant-loop-number
invariant-loop-number g l = record {
  kept : IsKeeping l.keeping;
  going : IsKeepingOn l.text l.rest l.read l.number l.fn.keeping.builder.text l.keeping.builder.text;
}

abbrev pub decreases-loop-number : goal.decreases-loop-number
decreases-loop-number g l = length l.rest
