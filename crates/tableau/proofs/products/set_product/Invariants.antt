use Rattle.std.proofs.Common.{◌≡◌, false, length}
use Rattle.tableau.specs.Products.{AreWithin}
use Rattle.tableau.proofs.ProductCodes.{IsProductSoFar}
use Rattle.tableau.proofs.products.set_product.Given as goal

-- the word so far, times that of the factors that are left, is the word of all
abbrev pub invariant-loop-qubit : goal.invariant-loop-qubit
invariant-loop-qubit g l =
    record {
      within : AreWithin (length l.fn.word.letters) (g.F.Factors.factors l.left);
      size : length l.word.letters ≡ length l.fn.word.letters;
      plus : l.word.negative ≡ false;
      product : IsProductSoFar (length l.fn.word.letters) (g.F.Factors.factors l.left) (g.F.Factors.factors l.fn.factors) l.word.letters;
    }

abbrev pub decreases-loop-qubit : goal.decreases-loop-qubit
decreases-loop-qubit g l = length (g.F.Factors.factors l.left)
