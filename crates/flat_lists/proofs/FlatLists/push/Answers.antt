use Rattle.std.proofs.Common.{◌≡◌, ◌+◌, length, length-append, ap, arith}
use Rattle.flat_lists.proofs.CutLemmas.{AreEnds-push, cut-push}
use Rattle.flat_lists.proofs.FlatLists.push.Goals as goal

pub invariant_of-self : goal.invariant_of-self
invariant_of-self g c = rw c.reserve.ensures.items c.self.invariant

pub invariant_of-self-in_err-extend_from_slice : goal.invariant_of-self-in_err-extend_from_slice
invariant_of-self-in_err-extend_from_slice g c = rw (c.reserve.ensures.items, c.in_err-extend_from_slice.ensures.items) c.self.invariant

pub invariant_of-self-2 : goal.invariant_of-self-2
invariant_of-self-2 g c =
    let items = c.self.inside.items.items in
    let list = c.args.list.now in
    let end : c.len.result ≡ length items + length list = omega (arith, c.len.ensures, ap length c.in_ok-extend_from_slice.ensures.items, length-append items list) in
    rw (c.push_reserved.ensures.items, c.reserve.ensures.items, c.in_ok-extend_from_slice.ensures.items, length-append items list)
    (AreEnds-push 0 c.self.inside.ends.items (length items) c.len.result (length items + length list) c.self.invariant (omega (arith, end)) end)

pub returns-clause-ok : goal.returns-clause-ok
returns-clause-ok g c =
    let items = c.self.inside.items.items in
    let list = c.args.list.now in
    let end : c.len.result ≡ length items + length list = omega (arith, c.len.ensures, ap length c.in_ok-extend_from_slice.ensures.items, length-append items list) in
    rw (c.push_reserved.ensures.items, c.reserve.ensures.items, c.in_ok-extend_from_slice.ensures.items, ← c.self.view_is)
    (cut-push 0 c.self.inside.ends.items items list c.len.result c.self.invariant end)
