use Rattle.std.proofs.Common.{ap₂, subst, sym, ◌∙◌}
use Rattle.std.proofs.lemmas.Result.{on_ok_weaker}
use Rattle.trackers.specs.private.Sets.{DescendsBelow, xor_sets}
use Rattle.trackers.proofs.SetLemmas.{descends_summed, summed}
use Rattle.trackers.proofs.list_set.ListSet.add_few.Goals as goal

pub invariant_of-self : goal.invariant_of-self
invariant_of-self g c =
    let m = c.self.inside.targets in
    let mine = c.self.inside.items.items in
    let sum = summed m c.other.inside.targets mine c.other.inside.items.items _ _ c.self.view_is c.other.view_is c.requires c.other.invariant in
    descends_summed c.put_few.result m c.put_few.new.items.items _ c.put_few.ensures.ok c.put_few.ensures.err
    (subst (DescendsBelow m) (sym (c.in-Some.ensures.sum ∙ ap₂ xor_sets c.as_slice.ensures c.as_slice-more.ensures)) (sum.below c.self.invariant))

pub returns-in-Some-clause-few : goal.returns-in-Some-clause-few
returns-in-Some-clause-few g c =
    let mine = c.self.inside.items.items in
    let sum = summed c.self.inside.targets c.other.inside.targets mine c.other.inside.items.items _ _ c.self.view_is c.other.view_is c.requires c.other.invariant in
    on_ok_weaker c.put_few.result
    (λ h. sum.row c.put_few.new.items.items (h ∙ (c.in-Some.ensures.sum ∙ ap₂ xor_sets c.as_slice.ensures c.as_slice-more.ensures)))
    c.put_few.ensures.ok
