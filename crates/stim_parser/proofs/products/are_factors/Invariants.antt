use Rattle.std.proofs.Common.{◌≡◌, length}
use Rattle.stim_parser.specs.Products.{are_factors}
use Rattle.stim_parser.proofs.products.are_factors.Given as goal

abbrev pub invariant-loop-left : goal.invariant-loop-left
invariant-loop-left l = are_factors l.left ≡ are_factors l.targets

abbrev pub decreases-loop-left : goal.decreases-loop-left
decreases-loop-left l = length l.left
