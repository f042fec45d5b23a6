use Rattle.std.proofs.Common.{arith, refl}
use Rattle.cursor.proofs.CursorBack.{enters_behind, few_entered, room_for_last}
use Rattle.cursor.proofs.cursor.Cursor.enter_behind.Goals as goal

pub push-requires : goal.push-requires
push-requires g c =
    (omega arith, room_for_last _ c.args.items.now.items c.args.self.now c.args.fresh c.requires.nested c.requires.returning c.requires.inside c.requires.end)

pub overflow_add-result : goal.overflow_add-result
overflow_add-result g c = omega (arith, few_entered _ c.args.items.now.items c.args.self.now c.args.fresh c.requires.nested c.requires.returning)

pub returns : goal.returns
returns g c =
    enters_behind _ c.args.items.now.items c.args.self.now c.args.fresh c.requires.nested c.requires.returning c.requires.inside _
    c.body_before-body.result c.requires.end c.body_before-body.ensures.spans c.body_before-body.ensures.started refl c.push.ensures.items
