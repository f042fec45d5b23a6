use Rattle.std.proofs.Common.{arith}
use Rattle.cursor.proofs.IterationsBack.{goes_back_by, stands_back}
use Rattle.cursor.proofs.cursor.Cursor.go_back_iterations.Goals as goal

pub returns-clause-place : goal.returns-clause-place
returns-clause-place g c =
    let apart = c.in_ok-before.ensures in
    stands_back _ c.args.items.now.items c.args.self.now c.args.later.now c.put_back.new.self c.in_ok-before.before c.min-count.result apart
    (omega (arith, c.min-count.ensures)) c.requires.here c.requires.later c.put_back.ensures.index
    (c.put_back.ensures.open apart.here.level apart.here.open_is)

pub returns-clause-back : goal.returns-clause-back
returns-clause-back g c =
    let apart = c.in_ok-before.ensures in
    goes_back_by _ c.args.items.now.items c.args.self.now c.args.later.now c.put_back.new.self c.in_ok-before.before c.min-count.result apart
    (omega (arith, c.min-count.ensures)) c.requires.here c.requires.later c.put_back.ensures.index
    (c.put_back.ensures.open apart.here.level apart.here.open_is)
