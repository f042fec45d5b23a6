use Rattle.std.proofs.Common.{length}
use Rattle.tableau.specs.Products.{AreWithin}
use Rattle.tableau.specs.private.Encoding.{HasLength}
use Rattle.tableau.proofs.ProductCodes.{IsCodeSoFar}
use Rattle.tableau.proofs.products.encode_apart.Given as goal

-- the code so far is that of the factors behind
abbrev pub invariant-loop-count : goal.invariant-loop-count
invariant-loop-count g l =
    record {
      within : AreWithin (length l.rows.items) (g.F.Factors.factors l.left);
      long : HasLength (length l.rows.items) l.code;
      coded : IsCodeSoFar (length l.rows.items) l.rows.items l.code.0 (g.F.Factors.factors l.left) (g.F.Factors.factors l.fn.factors) l.count l.lowest l.highest;
    }
