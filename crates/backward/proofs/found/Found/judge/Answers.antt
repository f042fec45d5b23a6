use Rattle.std.proofs.Common.{◌-◌, sym, ◌∙◌}
use Rattle.trackers.specs.Tracked.{anticommuting}
use Rattle.backward.specs.private.Passes.{opened}
use Rattle.backward.proofs.LentHits.{noted_none}
use Rattle.backward.proofs.found.Found.judge.Goals as goal

pub returns-clause-latest : goal.returns-clause-latest
returns-clause-latest g c =
    let f = c.args.self.now in
    λ _. noted_none (f.left - 1) c.in-Some.hit.now (anticommuting c.args.terms.now (g.T.Tracker.tracked c.args.tracker.now)) (opened c.args.targets f.latest.items)
    c.in-Some.ensures (sym c.is_empty.ensures ∙ c.if-is_empty.true)
