use Rattle.std.proofs.Common.{rules, ◌≡◌, true, ◌+◌, ◌-◌, ◌<◌, get_or, subst, ap, arith}
use Rattle.std.specs.Prelude.{reverse}
use Rattle.std.proofs.lemmas.List.{take_all}
use Rattle.trackers.specs.private.Sets.{DescendsBelow}
use Rattle.trackers.proofs.SetLemmas.{descends_more}
use Rattle.trackers.proofs.descending.ascends.Goals as goal

pub loop-i-preserved : goal.loop-i-preserved
loop-i-preserved c =
    let xs = c.args.targets.now in
    let i = c.loop-i.i in
    let here : i + 1 - 1 ≡ i = omega arith in
    let is : c.rises_at.result ≡ true = search rules in
    λ m low. descends_more xs i m (omega (arith, c.loop-i-test.true)) c.loop-i.invariant (c.rises_at.ensures is) (subst (λ k. get_or xs k 0 < m) here (low (omega arith)))

pub returns : goal.returns
returns c =
    let xs = c.args.targets.now in
    let i = c.loop-i.i in
    λ is m below. subst (DescendsBelow m) (ap reverse (take_all i xs (omega (arith, c.loop-i-test.false))))
    (c.loop-i.invariant m (λ some. below (i - 1) 0 (omega (arith, some, c.loop-i-test.false))))
