use Rattle.std.proofs.Common.{◌-◌, take}
use Rattle.tableau.specs.private.Factors.{NameNone}
use Rattle.tableau.proofs.products.few_name_none.Given as goal

-- what is left of the first factors decides
abbrev pub invariant-loop-place : goal.invariant-loop-place
invariant-loop-place g l =
    NameNone l.qubit (take (l.count - l.place) (g.F.Factors.factors l.left)) → NameNone l.qubit (take l.count (g.F.Factors.factors l.factors))
