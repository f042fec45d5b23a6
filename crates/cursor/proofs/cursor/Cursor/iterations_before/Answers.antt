use Rattle.std.proofs.Common.{arith, refl}
use Rattle.cursor.proofs.IterationsBack.{one_later}
use Rattle.cursor.proofs.cursor.Cursor.iterations_before.Goals as goal

pub returns : goal.returns
returns g c =
    one_later _ c.args.items.now.items c.args.self.now c.args.later.now c.in_ok-iteration.field-0 c.in_ok-level.level c.in_ok-next.next
    c.in_ok-iteration.ensures c.in_ok-level.ensures c.in_ok-next.ensures (omega arith) (omega arith) (omega arith)
    (c.if-not-is_chosen_at.ensures refl)
