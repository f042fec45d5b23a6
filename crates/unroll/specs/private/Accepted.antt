-- A circuit that isn't refused, and its totals: each fits 32 bits.
-- (The limits are this project's.)
use Rattle.std.specs.Prelude.{◌≡◌, ◌<◌, ◌^◌, None}
use Rattle.circuit_walk.specs.Refusals.{circuit_refusal}
use Rattle.stim_parser.specs.Circuits.{IsCircuit}
use Rattle.stim_parser.specs.Trees.{Tree}
use Rattle.unroll.specs.declared.totals.Totals.{Totals}
use Rattle.unroll.specs.private.Counted.{refusal_counted}
use Rattle.unroll.specs.private.Summed.{AreTotals}

-- the tree has a program, and these are its totals
pub record IsAccepted (tree : Tree) (totals : Totals) : Type 0 where
  pub circuit : IsCircuit tree
  pub counted : refusal_counted tree ≡ None
  pub accepted : circuit_refusal tree ≡ None
  pub are_totals : AreTotals tree totals

-- totals of 32 bits each
pub record HasTotals (t : Totals) : Type 0 where
  pub records : t.records < 2 ^ 32
  pub collapses : t.collapses < 2 ^ 32
  pub faults : t.faults < 2 ^ 32
  pub made : t.made < 2 ^ 32
  pub detectors : t.detectors < 2 ^ 32
  pub observables : t.observables < 2 ^ 32
