use Rattle.std.proofs.Common.{◌≡◌, ◌≤◌, ◌||◌, length}
use Rattle.std.specs.Prelude.{All, max}
use Rattle.stim_parser.specs.Numbers.{most_qubits}
use Rattle.circuit_walk.specs.Refusals.{reaches_far}
use Rattle.circuit_walk.specs.Totals.{qubits_to}
use Rattle.unroll.specs.private.MadeTotals.{qubits_named}
use Rattle.unroll.proofs.targets.reach_of_any.Given as goal

abbrev pub invariant-loop-first : goal.invariant-loop-first
invariant-loop-first l = record {
  qubits : max l.qubits (qubits_named l.rest) ≡ qubits_named l.targets;
  few : l.qubits ≤ most_qubits;
  small : All (λ target. qubits_to target ≤ most_qubits) l.rest;
  far : l.far || reaches_far l.records l.rest ≡ reaches_far l.records l.targets;
}

abbrev pub decreases-loop-first : goal.decreases-loop-first
decreases-loop-first l = length l.rest
