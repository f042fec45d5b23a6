use Rattle.tableau.proofs.FirstFactors.{none_on}
use Rattle.tableau.proofs.products.few_name_none.Goals as goal

pub loop-place-preserved : goal.loop-place-preserved
loop-place-preserved g c none =
    c.loop-place.invariant
    (none_on c.args.qubit c.args.count c.loop-place.place (g.F.Factors.factors c.loop-place.left) (g.F.Factors.factors c.take_first.new.self) (c.in-Some.at, c.in-Some.field-0-1) c.in-Some.ensures c.else-place-count.either none)
