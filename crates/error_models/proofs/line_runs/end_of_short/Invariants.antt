use Rattle.std.proofs.Common.{ℕ, ◌-◌, ◌<◌, ◌≤◌}
use Rattle.error_models.specs.ErrorLines.{line_at}
use Rattle.error_models.specs.private.ShortLines.{IsShort}
use Rattle.error_models.proofs.line_runs.end_of_short.Given as goal

abbrev pub invariant-loop-next : goal.invariant-loop-next
invariant-loop-next g l =
    record {
      from : l.line ≤ l.next;
      within : l.next ≤ l.last;
      short : (k : ℕ) → l.line ≤ k → k < l.next → IsShort (line_at l.model k);
    }

abbrev pub decreases-loop-next : goal.decreases-loop-next
decreases-loop-next g l = l.last - l.next
