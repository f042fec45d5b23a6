-- Each goal is a part of what `IsPieceAt` says of the start and the end that were read.
use Rattle.std.proofs.Common.{◌<◌, length, ap, arith}
use Rattle.flat_lists.proofs.CutLemmas.{IsPieceAt, IsPieceAt-read, length-cut}
use Rattle.flat_lists.proofs.FlatLists.get.Given.{Over}
use Rattle.flat_lists.proofs.FlatLists.get.Goals as goal
use Rattle.flat_lists.proofs.FlatLists.get.Goals.{After-deref-2, After-self}

below : (g : Over) (c : After-self g) → c.args.index < length c.self.inside.ends.items
below g c = omega (arith, c.requires, ap length c.self.view_is, length-cut 0 c.self.inside.ends.items c.self.inside.items.items)

piece : (g : Over) (c : After-deref-2 g) → IsPieceAt c.self.inside.items.items c.args.self.now c.args.index c.start_of-start.result c.index-end.result.now
piece g c = IsPieceAt-read _ _ c.self.view_is c.self.invariant c.requires (rw c.deref.ensures.value at c.start_of-start.ensures) c.index-end.ensures

pub start_of-start-requires : goal.start_of-start-requires
start_of-start-requires g c = rw c.deref.ensures.value (below g (goal.at.start_of-start-requires g c).After-self)

pub index-end-requires : goal.index-end-requires
index-end-requires g c = omega (arith, below g (goal.at.index-end-requires g c).After-self)

pub offset_bounds-deref-start : goal.offset_bounds-deref-start
offset_bounds-deref-start g c =
    let here = piece g (goal.at.offset_bounds-deref-start g c).After-deref-2 in
    omega (arith, here.ordered, here.within, c.deref-2.ensures.len)

pub slice_bounds-result-count : goal.slice_bounds-result-count
slice_bounds-result-count g c = (piece g (goal.at.slice_bounds-result-count g c).After-deref-2).ordered

pub slice_bounds-result-start : goal.slice_bounds-result-start
slice_bounds-result-start g c = (piece g (goal.at.slice_bounds-result-start g c).After-deref-2).ordered

pub slice_bounds-result-end : goal.slice_bounds-result-end
slice_bounds-result-end g c = omega (arith, (piece g (goal.at.slice_bounds-result-end g c).After-deref-2).within, c.deref-2.ensures.len)

pub returns-clause-item : goal.returns-clause-item
returns-clause-item g c = rw c.deref-2.ensures.value (piece g (goal.at.returns-clause-item g c).After-deref-2).item

pub returns-clause-value : goal.returns-clause-value
returns-clause-value g c = rw c.deref-2.ensures.value (piece g (goal.at.returns-clause-value g c).After-deref-2).value
