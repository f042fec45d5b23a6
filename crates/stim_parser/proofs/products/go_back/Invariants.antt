use Rattle.std.proofs.Common.{length}
use Rattle.stim_parser.specs.private.QubitSets.{is_named}
use Rattle.stim_parser.proofs.ProductSteps.{IsBack}
use Rattle.stim_parser.proofs.products.go_back.Given as goal

abbrev pub invariant-loop-left : goal.invariant-loop-left
invariant-loop-left l = IsBack (is_named l.named.words) (is_named l.initial.named.words) l.left l.targets

abbrev pub decreases-loop-left : goal.decreases-loop-left
decreases-loop-left l = length l.left
