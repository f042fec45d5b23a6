use Rattle.std.proofs.Common.{ap, ap₂, subst, sym, ◌∙◌}
use Rattle.std.specs.Prelude.{reverse}
use Rattle.std.proofs.lemmas.Option.{IfSome_then}
use Rattle.bit_rows.specs.Rows.{xor_rows}
use Rattle.trackers.specs.private.Sets.{DescendsBelow, xor_sets}
use Rattle.step_model.specs.TargetSets.{members, row_of_set}
use Rattle.trackers.proofs.SetLemmas.{row_of_xor_sets, same_count, DescendsBelow-xor_sets, reverse_is_members}
use Rattle.trackers.proofs.list_set.ListSetTargetSet.sum_few_of_four.Goals as goal

pub returns-clause-sum : goal.returns-clause-sum
returns-clause-sum g c =
    let m = c.self.inside.targets in
    let one = c.self.inside.items.items in
    let two = c.second.inside.items.items in
    let three = c.third.inside.items.items in
    let four = c.fourth.inside.items.items in
    let counted_two = same_count m c.second.inside.targets one two _ _ c.self.view_is c.second.view_is c.requires.second in
    let counted_three = same_count m c.third.inside.targets one three _ _ c.self.view_is c.third.view_is c.requires.third in
    let counted_four = same_count m c.fourth.inside.targets one four _ _ c.self.view_is c.fourth.view_is c.requires.fourth in
    let front = xor_sets one two in
    let back = xor_sets three four in
    let front_descends = DescendsBelow-xor_sets m one two c.self.invariant (subst (λ n. DescendsBelow n two) (sym counted_two) c.second.invariant) in
    let back_descends =
    DescendsBelow-xor_sets m three four (subst (λ n. DescendsBelow n three) (sym counted_three) c.third.invariant) (subst (λ n. DescendsBelow n four) (sym counted_four) c.fourth.invariant) in
    let front_row = row_of_xor_sets m one two ∙ ap₂ xor_rows c.self.view_is (ap (λ n. row_of_set n two) counted_two ∙ c.second.view_is) in
    let back_row = row_of_xor_sets m three four ∙ ap₂ xor_rows (ap (λ n. row_of_set n three) counted_three ∙ c.third.view_is) (ap (λ n. row_of_set n four) counted_four ∙ c.fourth.view_is) in
    IfSome_then c.sum_few_of_four.result c.sum_few_of_four.ensures.sum
    (λ len h. ap reverse h
    ∙ (ap reverse (ap₂ xor_sets (ap₂ xor_sets c.as_slice.ensures c.as_slice-2.ensures) (ap₂ xor_sets c.as_slice-3.ensures c.as_slice-4.ensures))
    ∙ (reverse_is_members m (xor_sets front back) (DescendsBelow-xor_sets m front back front_descends back_descends)
    ∙ ap members (row_of_xor_sets m front back ∙ ap₂ xor_rows front_row back_row))))
