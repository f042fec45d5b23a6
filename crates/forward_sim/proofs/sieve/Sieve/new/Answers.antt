-- Mask after mask.
use Rattle.std.proofs.Common.{arith}
use Rattle.forward_sim.proofs.Rotations.{lets_small_pass}
use Rattle.forward_sim.proofs.sieve.Sieve.new.Goals as goal

pub invariant_of-result : goal.invariant_of-result
invariant_of-result c =
    record { lets_pass = lets_small_pass c.loop-r.masks (λ r below. c.loop-r.invariant.masks r (omega (arith, below, c.loop-r-test.false))) }
