use Rattle.std.proofs.Common.{◌≡◌, ℕ, ◌-◌, ◌+◌, false, ◌∷◌, [], ◌++◌, get_or, take, append-nil, ap, subst, sym, ◌∙◌, arith}
use Rattle.std.proofs.lemmas.Bool.Decides.{nat_tests}
use Rattle.std.proofs.lemmas.List.{take_more}
use Rattle.backward.specs.private.MovedTargets.{is_within, picked}
use Rattle.backward.proofs.GrownLists.{is_high, is_low}
use Rattle.backward.proofs.MovedLemmas.{picked_more, picked_none, picked_one}
use Rattle.backward.proofs.moved.end_of_picked.Goals as goal
use Rattle.backward.proofs.moved.end_of_picked.Goals.{then-low-target+then-target-high+else-at-list+else-list-at, else-low-target, else-low-target-via-then-low-target+else-target-high, else-low-target-via-else-low-target}

pub loop-i-preserved : goal.loop-i-preserved
loop-i-preserved c =
    let list = c.args.list.now in
    let later = c.args.later.now in
    let at = c.loop-i.at in
    let i = c.loop-i.i in
    let t : ℕ = get_or later i 0 in
    let low = c.args.low in
    let high = c.args.high in
    let by = c.args.by in
    let base = take c.args.from list in
    let more = picked_more low high by i later (take at list) base c.loop-i-test.true c.loop-i.invariant.so_far in
    elim c.if-low-target.branch [
      | then-low-target+then-target-high+else-at-list+else-list-at w ↦ (
          let same : get_or list at 0 ≡ t - by = grind (arith, nat_tests, w.if-list-at.false) in
          let next : take (at + 1) list ≡ base ++ picked low high by (take (i + 1) later) =
          take_more list at 0 (omega (arith, w.if-at-list.false)) ∙ more (get_or list at 0 ∷ []) (ap (λ x. x ∷ []) same ∙ picked_one low high by t w.if-low-target.true w.if-target-high.true) in
          record {
            within = omega (arith, w.if-at-list.false, w.at-is);
            so_far = subst (λ n. take n list ≡ base ++ picked low high by (take (i + 1) later)) (sym w.at-is) next;
          })
      | else-low-target w ↦ (
          let out : is_within low high t ≡ false = elim w.else-low-target.branch [
            | else-low-target-via-then-low-target+else-target-high v ↦ is_high low high t v.if-target-high.false
            | else-low-target-via-else-low-target v ↦ is_low low high t v.if-low-target.false
          ] in
          let none : take at list ≡ base ++ picked low high by (take (i + 1) later) = sym (append-nil (take at list)) ∙ more [] (picked_none low high by t out) in
          record {
            within = let within = c.loop-i.invariant.within in omega (arith, within, w.at-is);
            so_far = subst (λ n. take n list ≡ base ++ picked low high by (take (i + 1) later)) (sym w.at-is) none;
          })
    ]
