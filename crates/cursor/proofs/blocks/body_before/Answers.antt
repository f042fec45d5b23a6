use Rattle.std.proofs.Common.{◌<◌, arith, refl, suc}
use Rattle.cursor.specs.Places.{trees_at}
use Rattle.cursor.proofs.BlockLemmas.{back_over_end, back_over_instruction, back_over_start, begin_behind, item_before}
use Rattle.cursor.proofs.blocks.body_before.Goals as goal
use Rattle.cursor.proofs.blocks.body_before.Goals.{in-Does, in-End, in-Start+else-depth-eq1}

pub loop-body-init : goal.loop-body-init
loop-body-init g c = begin_behind c.args.items.now.items c.args.end c.requires.nested c.requires.end

pub loop-body-preserved : goal.loop-body-preserved
loop-body-preserved g c =
    let items = c.args.items.now.items in
    let body = c.loop-body.body in
    let behind = trees_at items (suc c.args.end) in
    let inside : 0 < body = item_before items body c.args.end body behind c.loop-body.depth c.requires.nested refl c.loop-body.invariant in
    elim c.match-mark_at.branch [
      | in-Does w ↦
          rw w.depth-is
          (back_over_instruction items c.args.end body behind c.loop-body.depth c.loop-body.invariant inside w.in-Does.ensures.0 w.in-Does.ensures.1)
      | in-End w ↦ rw w.depth-is (back_over_end items c.args.end body behind c.loop-body.depth c.loop-body.invariant inside w.in-End.ensures)
      | in-Start+else-depth-eq1 w ↦
          rw w.depth-is
          (back_over_start items c.args.end body behind c.loop-body.depth c.loop-body.invariant inside w.in-Start.ensures.0 w.in-Start.iterations
          w.in-Start.ensures.1 w.if-depth-eq1.false)
    ]

pub unreachable-requires : goal.unreachable-requires
unreachable-requires g c =
    omega (arith, item_before c.args.items.now.items c.loop-body.body c.args.end c.loop-body.body (trees_at c.args.items.now.items (suc c.args.end)) c.loop-body.depth c.requires.nested refl c.loop-body.invariant)
