use Rattle.std.proofs.Common.{◌∷◌, [], append-nil}
use Rattle.backward.proofs.MovedLemmas.{moved_more}
use Rattle.backward.proofs.moved.move_list.Goals as goal
use Rattle.backward.proofs.moved.move_list.Goals.{in-Some+in_ok-push, in_default}

pub loop-target-preserved : goal.loop-target-preserved
loop-target-preserved g c =
    let list = c.args.list.now in
    let i = c.loop-target.target-index in
    let more = moved_more c.args.staying c.args.by i list c.loop-target.into.items c.loop-target-test.true c.loop-target.invariant in
    elim c.match-moved_target.branch [
      | in-Some+in_ok-push w ↦ let pushed = more (w.in-Some.moved ∷ []) w.in-Some.ensures in cc (w.in_ok-push.ensures.items)
      | in_default w ↦ let none = more [] w.in_default.ensures in cc (append-nil c.loop-target.into.items)
    ]
