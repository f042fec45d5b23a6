use Rattle.std.proofs.Common.{arith, refl}
use Rattle.cursor.proofs.CursorBack.{leaves_empty_back, leaves_first, leaves_to_earlier, left_fits, room_for_earlier, some_popped_behind}
use Rattle.cursor.proofs.cursor.Cursor.leave_before.Goals as goal

pub unwrap-level-requires : goal.unwrap-level-requires
unwrap-level-requires g c =
    c.pop.ensures.variant.1
    (some_popped_behind _ c.args.items.now.items c.args.self.now c.args.fresh c.requires.nested c.requires.returning c.requires.inside
    c.args.iterations c.requires.start)

pub returns-then-fresh-gt0 : goal.returns-then-fresh-gt0
returns-then-fresh-gt0 g c =
    leaves_empty_back _ c.args.items.now.items c.args.self.now c.unwrap-level.result c.pop.new.self.items c.args.iterations c.requires.nested
    c.requires.inside c.requires.start _ c.pop.ensures.items c.unwrap-level.ensures _ c.args.fresh c.if-fresh-gt0.true
    c.requires.returning refl refl

pub overflow_add-left : goal.overflow_add-left
overflow_add-left g c =
    omega (
      arith,
      left_fits _ c.args.items.now.items c.args.self.now c.unwrap-level.result c.pop.new.self.items c.args.iterations c.requires.nested
          c.requires.inside c.requires.start _ c.pop.ensures.items c.unwrap-level.ensures c.args.fresh c.requires.returning,
    )

pub returns-then-left-iterations : goal.returns-then-left-iterations
returns-then-left-iterations g c =
    leaves_first _ c.args.items.now.items c.args.self.now c.unwrap-level.result c.pop.new.self.items c.args.iterations c.requires.nested
    c.requires.inside c.requires.start _ c.pop.ensures.items c.unwrap-level.ensures _ c.args.fresh c.if-fresh-gt0.false
    c.if-left-iterations.true c.requires.returning refl refl

pub push-requires : goal.push-requires
push-requires g c = (
  omega arith,
  room_for_earlier _ c.args.items.now.items c.args.self.now c.unwrap-level.result c.pop.new.self.items c.args.iterations c.requires.nested
      c.requires.inside c.requires.start _ c.pop.ensures.items c.unwrap-level.ensures c.args.fresh c.requires.returning,
)

pub returns : goal.returns
returns g c =
    leaves_to_earlier _ c.args.items.now.items c.args.self.now c.unwrap-level.result c.pop.new.self.items c.args.iterations c.requires.nested
    c.requires.inside c.requires.start _ c.pop.ensures.items c.unwrap-level.ensures _ c.args.fresh c.if-fresh-gt0.false
    c.if-left-iterations.false refl c.requires.returning c.push.ensures.items
