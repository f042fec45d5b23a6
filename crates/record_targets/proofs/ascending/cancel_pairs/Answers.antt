use Rattle.std.proofs.Common.{◌+◌, get_or, set, ap, subst, sym, ◌∙◌, arith}
use Rattle.record_targets.proofs.PairLemmas.{IsCancelled, both_go, next_stays}
use Rattle.record_targets.proofs.ascending.cancel_pairs.Goals as goal
use Rattle.record_targets.proofs.ascending.cancel_pairs.Goals.{then-kept-gt0+then-list-kept, else-kept-gt0, else-kept-gt0-via-then-kept-gt0+else-list-kept, else-kept-gt0-via-else-kept-gt0}

pub loop-i-preserved : goal.loop-i-preserved
loop-i-preserved c =
    let old = c.args.list.now in
    let new = c.loop-i.list in
    let i = c.loop-i.i in
    let kept = c.loop-i.kept in
    let held = c.loop-i.invariant in
    let next = held.ahead i (omega arith) in
    elim c.if-kept-gt0.branch [
      | then-kept-gt0+then-list-kept w ↦
          subst (λ l. IsCancelled old l (i + 1) c.if-kept-gt0.kept) (sym w.list-is)
          (subst (IsCancelled old new (i + 1)) (sym w.kept-is)
          (both_go old new i kept held c.loop-i-test.true w.if-kept-gt0.true (w.if-list-kept.true ∙ next)))
      | else-kept-gt0 w ↦
          subst (λ l. IsCancelled old l (i + 1) c.if-kept-gt0.kept) (sym (w.list-is ∙ ap (set new kept) next))
          (subst (IsCancelled old (set new kept (get_or old i 0)) (i + 1)) (sym w.kept-is)
          (next_stays old new i kept held c.loop-i-test.true c.requires
          (λ some same. elim w.else-kept-gt0.branch [
            | else-kept-gt0-via-then-kept-gt0+else-list-kept v ↦ v.if-list-kept.false (same ∙ sym next)
            | else-kept-gt0-via-else-kept-gt0 v ↦ omega (arith, some, v.if-kept-gt0.false)
          ])))
    ]
