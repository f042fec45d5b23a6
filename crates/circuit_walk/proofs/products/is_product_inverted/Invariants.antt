use Rattle.std.proofs.Common.{◌≡◌, length}
use Rattle.pauli_word.specs.Parity.{exclusive_or}
use Rattle.circuit_walk.specs.Targets.{is_product_inverted}
use Rattle.circuit_walk.proofs.products.is_product_inverted.Given as goal

abbrev pub invariant-loop-rest : goal.invariant-loop-rest
invariant-loop-rest l = exclusive_or l.inverted (is_product_inverted l.rest) ≡ is_product_inverted l.product

abbrev pub decreases-loop-rest : goal.decreases-loop-rest
decreases-loop-rest l = length l.rest
