use Rattle.std.proofs.Common.{◌≤◌, ◌+◌, ◌++◌, ◌∷◌, [], length, drop, get_or, inl, inr, ap, ◌∙◌, arith, append_assoc}
use Rattle.std.specs.Prelude.{◌⊎◌}
use Rattle.std.proofs.lemmas.List.{take_rest}
use Rattle.std.proofs.lemmas.Result.{on_ok_weaker}
use Rattle.trackers.specs.private.Sets.{xor_sets}
use Rattle.trackers.proofs.SetLemmas.{both_cancel, first_left, greater_first, greater_second, second_left}
use Rattle.trackers.proofs.descending.merge.Goals as goal
use Rattle.trackers.proofs.descending.merge.Goals.{then-loop-i-test+else-j-second, else-loop-i-test}

pub returns-then-i-first : goal.returns-then-i-first
returns-then-i-first g c =
    let first = c.args.first.now in
    let second = c.args.second.now in
    let i = c.loop-i.i in
    let j = c.loop-i.j in
    let done : (length first ≤ i) ⊎ (length second ≤ j) =
    elim c.loop-i-test.branch [
      | then-loop-i-test+else-j-second w ↦ inr (omega (arith, w.if-j-second.false))
      | else-loop-i-test w ↦ inl (omega (arith, w.loop-i-test.false))
    ] in
    on_ok_weaker c.extend_from_slice.result
    (λ h. h
    ∙ (ap (λ rest. c.loop-i.into.items ++ rest) (take_rest first i ∙ first_left first second i j done c.if-i-first.true)
    ∙ c.loop-i.invariant.whole))
    c.extend_from_slice.ensures.ok

pub returns-else-i-first : goal.returns-else-i-first
returns-else-i-first g c =
    let first = c.args.first.now in
    let second = c.args.second.now in
    let i = c.loop-i.i in
    let j = c.loop-i.j in
    on_ok_weaker c.extend_from_slice-else-i-first.result
    (λ h. h
    ∙ (ap (λ rest. c.loop-i.into.items ++ rest) (take_rest second j ∙ second_left first second i j c.if-i-first.false)
    ∙ c.loop-i.invariant.whole))
    c.extend_from_slice-else-i-first.ensures.ok

pub loop-i-preserved-then-y-x : goal.loop-i-preserved-then-y-x
loop-i-preserved-then-y-x g c =
    let l = c.loop-i in
    let made = l.into.items in
    record {
      first_within = omega (arith, c.loop-i-test.true);
      second_within = l.invariant.second_within;
      whole =
          ap (λ items. items ++ xor_sets (drop (l.i + 1) c.args.first.now) (drop l.j c.args.second.now)) c.in_ok-push.ensures.ok
          ∙ (append_assoc made (get_or c.args.first.now l.i 0 ∷ []) _
          ∙ (ap (λ rest. made ++ rest) (greater_first c.args.first.now c.args.second.now l.i l.j c.loop-i-test.true c.if-j-second.true c.if-y-x.true) ∙ l.invariant.whole));
    }

pub loop-i-preserved-then-x-y : goal.loop-i-preserved-then-x-y
loop-i-preserved-then-x-y g c =
    let l = c.loop-i in
    let made = l.into.items in
    record {
      first_within = l.invariant.first_within;
      second_within = omega (arith, c.if-j-second.true);
      whole =
          ap (λ items. items ++ xor_sets (drop l.i c.args.first.now) (drop (l.j + 1) c.args.second.now)) c.in_ok-push-2.ensures.ok
          ∙ (append_assoc made (get_or c.args.second.now l.j 0 ∷ []) _
          ∙ (ap (λ rest. made ++ rest) (greater_second c.args.first.now c.args.second.now l.i l.j c.loop-i-test.true c.if-j-second.true c.if-x-y.true) ∙ l.invariant.whole));
    }

pub loop-i-preserved : goal.loop-i-preserved
loop-i-preserved g c =
    let l = c.loop-i in
    record {
      first_within = omega (arith, c.loop-i-test.true);
      second_within = omega (arith, c.if-j-second.true);
      whole = ap (λ rest. l.into.items ++ rest) (both_cancel c.args.first.now c.args.second.now l.i l.j c.loop-i-test.true c.if-j-second.true c.if-y-x.false c.if-x-y.false) ∙ l.invariant.whole;
    }
