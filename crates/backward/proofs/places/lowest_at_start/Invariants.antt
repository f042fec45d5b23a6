use Rattle.std.proofs.Common.{◌≡◌}
use Rattle.backward.specs.private.Passes.{lowest_below, opened, tracked_before}
use Rattle.backward.proofs.places.lowest_at_start.Given as goal

abbrev pub invariant-loop-qubit : goal.invariant-loop-qubit
invariant-loop-qubit g l =
    record {
      words : g.T.Tracker.tracked l.tracker ≡ tracked_before l.program.listing l.program.listing.steps;
      lowest : opened l.targets l.lowest.items ≡ lowest_below l.program.listing l.qubit;
    }
