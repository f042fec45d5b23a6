-- A circuit that isn't refused is within the limits, and its totals are the lengths of what it lists.
use Rattle.unroll.proofs.AcceptedTotals.{parts_fit, totals_fit}
use Rattle.unroll.proofs.programs.unroll.Goals as goal

pub narrowed-requires : goal.narrowed-requires
narrowed-requires g c = totals_fit c.args.circuit c.in_ok-totals.totals c.in_ok-totals.ensures.ok

pub new-requires : goal.new-requires
new-requires g c =
    parts_fit c.args.circuit c.in_ok-totals.totals c.in_ok-totals.ensures.ok _ c.numbered.ensures.items c.numbered.ensures.kept
    (record {
      qubits = c.narrowed.ensures.qubits;
      records = c.narrowed.ensures.records;
      collapses = c.narrowed.ensures.collapses;
      faults = c.narrowed.ensures.faults;
      steps = c.narrowed.ensures.steps;
      detectors = c.narrowed.ensures.detectors;
      observables = c.narrowed.ensures.observables;
    })
