use Rattle.std.proofs.Common.{sym, ◌∙◌}
use Rattle.std.proofs.lemmas.Result.{on_ok_weaker}
use Rattle.trackers.proofs.ColumnLemmas.{xor_where-false, xor_where-true}
use Rattle.trackers.proofs.target_set.add_where.Goals as goal

pub returns-then-add-clause-sum : goal.returns-then-add-clause-sum
returns-then-add-clause-sum g c =
    let set = g.S.TargetSet.bits c.args.set.now in
    let other = g.S.TargetSet.bits c.args.other.now in
    rw c.if-add.true (on_ok_weaker c.add.result (λ h. h ∙ sym (xor_where-true set other c.requires.other)) c.add.ensures.ok)

pub returns-else-add-clause-sum : goal.returns-else-add-clause-sum
returns-else-add-clause-sum g c =
    rw c.if-add.false (sym (xor_where-false (g.S.TargetSet.bits c.args.set.now) (g.S.TargetSet.bits c.args.other.now)))
