use Rattle.std.proofs.Common.{◌≤◌, ◌++◌, length, take, drop, inl, inr, ap, ap₂, ◌∙◌, arith, append_assoc}
use Rattle.std.specs.Prelude.{◌⊎◌}
use Rattle.std.proofs.lemmas.List.{take_rest}
use Rattle.trackers.proofs.SetLemmas.{rests_left}
use Rattle.trackers.proofs.descending.merge_few.Goals as goal
use Rattle.trackers.proofs.descending.merge_few.Goals.{then-loop-i-test+else-j-second, else-loop-i-test}

pub returns-clause-sum : goal.returns-clause-sum
returns-clause-sum c =
    let first = c.args.first.now in
    let second = c.args.second.now in
    let i = c.loop-i.i in
    let j = c.loop-i.j in
    let made = take c.loop-i.len c.loop-i.sum in
    let done : (length first ≤ i) ⊎ (length second ≤ j) =
    elim c.loop-i-test.branch [
      | then-loop-i-test+else-j-second w ↦ inr (omega (arith, w.if-j-second.false))
      | else-loop-i-test w ↦ inl (omega (arith, w.loop-i-test.false))
    ] in
    c.append_few.ensures.sum
    ∙ (ap₂ (λ l r. l ++ r) (c.append_few-len.ensures.sum ∙ ap (λ l. made ++ l) (take_rest first i)) (take_rest second j)
    ∙ (append_assoc made (drop i first) (drop j second)
    ∙ (ap (λ l. made ++ l) (rests_left first second i j done) ∙ c.loop-i.invariant.whole)))
