use Rattle.std.proofs.Common.{◌∙◌}
use Rattle.trackers.proofs.SetLemmas.{came_last}
use Rattle.trackers.proofs.descending.toggle_anywhere.Goals as goal

pub returns-in_ok-push-clause-ok : goal.returns-in_ok-push-clause-ok
returns-in_ok-push-clause-ok g c =
    λ m descends. c.in_ok-push.ensures.ok
    ∙ came_last m c.args.items.now.items _ c.args.target c.as_slice.ensures (c.comes_last.ensures c.if-comes_last.true) descends
