-- The items of the next list become the last piece of those that are cut.
use Rattle.std.proofs.Common.{◌≡◌, length, refl, arith}
use Rattle.std.proofs.lemmas.List.{take_all, drop_all}
use Rattle.flat_lists.proofs.CutLemmas.{cut-rest}
use Rattle.flat_lists.proofs.growing_lists.GrowingLists.end.Goals as goal

pub invariant_of-self-2 : goal.invariant_of-self-2
invariant_of-self-2 g c =
    let inside = c.self.inside in
    let items = inside.items.items in
    let count : c.len-end.result ≡ length items = omega (arith, c.len-end.ensures) in
    rw (c.in_ok-push.ensures.items, count) ((cut-rest inside.ends.items items inside.start (length items) c.self.invariant.0 c.self.invariant.1 refl).0, omega arith)

pub returns-clause-ok : goal.returns-clause-ok
returns-clause-ok g c =
    let inside = c.self.inside in
    let items = inside.items.items in
    let count : c.len-end.result ≡ length items = omega (arith, c.len-end.ensures) in
    rw (
      c.in_ok-push.ensures.items,
      count,
      take_all (length items) items (omega arith),
      drop_all (length items) items (omega arith),
      (cut-rest inside.ends.items items inside.start (length items) c.self.invariant.0 c.self.invariant.1 refl).1,
      ← c.self.view_is,
    )
    refl
