use Rattle.std.proofs.Common.{ap, ap₂, subst, sym, ◌∙◌}
use Rattle.std.specs.Prelude.{reverse}
use Rattle.std.proofs.lemmas.Option.{IfSome_then}
use Rattle.bit_rows.specs.Rows.{xor_rows}
use Rattle.trackers.specs.private.Sets.{DescendsBelow, xor_sets}
use Rattle.step_model.specs.TargetSets.{members, row_of_set}
use Rattle.trackers.proofs.SetLemmas.{row_of_xor_sets, same_count, DescendsBelow-xor_sets, reverse_is_members}
use Rattle.trackers.proofs.list_set.ListSetTargetSet.sum_few.Goals as goal

pub returns-clause-sum : goal.returns-clause-sum
returns-clause-sum g c =
    let m = c.self.inside.targets in
    let mine = c.self.inside.items.items in
    let other = c.other.inside.items.items in
    let counted = same_count m c.other.inside.targets mine other _ _ c.self.view_is c.other.view_is c.requires in
    let descends = DescendsBelow-xor_sets m mine other c.self.invariant (subst (λ n. DescendsBelow n other) (sym counted) c.other.invariant) in
    IfSome_then c.sum_few.result c.sum_few.ensures.sum
    (λ len h. ap reverse h
    ∙ (ap reverse (ap₂ xor_sets c.as_slice.ensures c.as_slice-2.ensures)
    ∙ (reverse_is_members m (xor_sets mine other) descends
    ∙ ap members (row_of_xor_sets m mine other ∙ ap₂ xor_rows c.self.view_is (ap (λ n. row_of_set n other) counted ∙ c.other.view_is)))))
