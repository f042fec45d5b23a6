use Rattle.std.proofs.Common.{◌∷◌, ◌++◌, [], List, ℕ, ap, ap₂, sym, ◌∙◌, arith, append_assoc}
use Rattle.std.proofs.lemmas.Result.{on_ok_weaker}
use Rattle.step_model.specs.TargetSets.{members}
use Rattle.trackers.proofs.ColumnLemmas.{rows_long}
use Rattle.trackers.proofs.KeptLemmas.{bits_of_column}
use Rattle.trackers.proofs.column.Column.keep.Goals as goal

pub list-requires : goal.list-requires
list-requires g c =
    let bits = g.S.TargetSet.bits in
    omega (arith, c.requires, rows_long (bits c.self.inside.x) (bits c.self.inside.z) c.args.self.now c.self.invariant c.self.view_is)

pub list-requires-2 : goal.list-requires-2
list-requires-2 g c =
    let bits = g.S.TargetSet.bits in
    omega (arith, c.requires, c.self.invariant, rows_long (bits c.self.inside.x) (bits c.self.inside.z) c.args.self.now c.self.invariant c.self.view_is)

pub returns : goal.returns
returns g c =
    let bits = g.S.TargetSet.bits in
    let kept = bits_of_column (bits c.self.inside.x) (bits c.self.inside.z) c.args.self.now c.self.invariant c.self.view_is in
    on_ok_weaker c.push-2.result
    (λ last. last
    ∙ (ap₂ (λ (lists : List (List ℕ)) (z : List ℕ). lists ++ z ∷ []) (c.in_ok-push.ensures.ok ∙ ap (λ (x : List ℕ). c.args.lists.now ++ x ∷ []) (c.as_slice.ensures.value ∙ (c.in_ok-list.ensures ∙ ap members (sym kept.0))))
    (c.as_slice-2.ensures.value ∙ (c.in_ok-list-2.ensures ∙ ap members (sym kept.1)))
    ∙ append_assoc c.args.lists.now _ _))
    c.push-2.ensures.ok
