use Rattle.std.proofs.Common.{subst}
use Rattle.std.specs.List.Sorted.{IsStrictlyIncreasing}
use Rattle.record_targets.proofs.OrderLemmas.{ascending_is_members}
use Rattle.record_targets.proofs.ascending.make_ascend.Goals as goal

pub returns-else-not-ascends : goal.returns-else-not-ascends
returns-else-not-ascends g c = λ m below.
    ascending_is_members m c.args.list.now.items (subst IsStrictlyIncreasing c.as_slice.ensures.value (c.ascends.ensures c.if-not-ascends.false)) below
