use Rattle.std.proofs.Common.{◌≡◌, ℕ, ◌-◌, false, ◌∷◌, [], get_or, append-nil}
use Rattle.backward.specs.private.MovedTargets.{is_within}
use Rattle.backward.proofs.GrownLists.{is_high, is_low}
use Rattle.backward.proofs.MovedLemmas.{picked_more, picked_none, picked_one}
use Rattle.backward.proofs.moved.pick.Goals as goal
use Rattle.backward.proofs.moved.pick.Goals.{then-low-target+then-target-high+in_ok-push, else-low-target, else-low-target-via-then-low-target+else-target-high, else-low-target-via-else-low-target}

pub loop-target-preserved : goal.loop-target-preserved
loop-target-preserved g c =
    let list = c.args.list.now in
    let t : ℕ = get_or list c.loop-target.target-index 0 in
    let low = c.args.low in
    let high = c.args.high in
    let by = c.args.by in
    let more = picked_more low high by c.loop-target.target-index list c.loop-target.into.items c.args.into.now.items c.loop-target-test.true c.loop-target.invariant in
    elim c.if-low-target.branch [
      | then-low-target+then-target-high+in_ok-push w ↦ let pushed = more ((t - by) ∷ []) (picked_one low high by t w.if-low-target.true w.if-target-high.true) in cc (w.in_ok-push.ensures.items)
      | else-low-target w ↦ (
          let out : is_within low high t ≡ false = elim w.else-low-target.branch [
            | else-low-target-via-then-low-target+else-target-high v ↦ is_high low high t v.if-target-high.false
            | else-low-target-via-else-low-target v ↦ is_low low high t v.if-low-target.false
          ] in
          let none = more [] (picked_none low high by t out) in
          cc (append-nil c.loop-target.into.items))
    ]
