use Rattle.std.proofs.Common.{◌<◌, false, length, ap, ap₂, subst, sym, ◌∙◌}
use Rattle.std.specs.Prelude.{All}
use Rattle.std.proofs.lemmas.List.{length-replicate}
use Rattle.step_model.specs.TargetSets.{row_of_set}
use Rattle.step_model.proofs.MemberLemmas.{members_within}
use Rattle.trackers.proofs.MemberLists.{row_of_members}
use Rattle.trackers.proofs.row_set.RowSet.to_list.Goals as goal

pub make_set-requires : goal.make_set-requires
make_set-requires g c =
    let row = c.args.self.now in
    let long = ap length c.emptied-list.ensures ∙ length-replicate (length row) false in
    subst (λ n. All (λ t. t < n) c.as_slice.result.now) (sym long)
    (subst (All (λ t. t < length row)) (sym (c.as_slice.ensures.value ∙ c.in_ok-list.ensures)) (members_within row))

pub returns : goal.returns
returns g c =
    let row = c.args.self.now in
    let long = ap length c.emptied-list.ensures ∙ length-replicate (length row) false in
    c.in_ok-make_set.ensures.ok ∙ (ap₂ row_of_set long (c.as_slice.ensures.value ∙ c.in_ok-list.ensures) ∙ row_of_members row)
