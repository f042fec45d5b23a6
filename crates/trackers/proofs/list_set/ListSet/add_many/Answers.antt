use Rattle.std.proofs.Common.{ap, subst, sym, ◌∙◌}
use Rattle.std.proofs.lemmas.Result.{on_ok_weaker}
use Rattle.trackers.specs.private.Sets.{DescendsBelow, xor_sets}
use Rattle.trackers.proofs.SetLemmas.{descends_after, same_count, summed}
use Rattle.trackers.proofs.list_set.ListSet.add_many.Goals as goal

pub invariant_of-self : goal.invariant_of-self
invariant_of-self g c =
    let m = c.self.inside.targets in
    let mine = c.self.inside.items.items in
    let sum = summed m c.other.inside.targets mine c.other.inside.items.items _ _ c.self.view_is c.other.view_is c.requires.other c.other.invariant in
    descends_after c.add_many.result m mine c.add_many.new.items.items _ c.add_many.ensures.ok c.add_many.ensures.err
    (subst (λ l. DescendsBelow m (xor_sets mine l)) (sym c.as_slice-more.ensures) (sum.below c.self.invariant)) c.self.invariant

pub invariant_of-spare : goal.invariant_of-spare
invariant_of-spare g c =
    let mine = c.self.inside.items.items in
    let counted = same_count c.spare.inside.targets c.self.inside.targets c.spare.inside.items.items mine _ _ c.spare.view_is c.self.view_is c.requires.spare in
    c.add_many.ensures.spare c.spare.inside.targets (subst (λ n. DescendsBelow n mine) (sym counted) c.self.invariant) c.spare.invariant

pub returns-clause-ok : goal.returns-clause-ok
returns-clause-ok g c =
    let mine = c.self.inside.items.items in
    let sum = summed c.self.inside.targets c.other.inside.targets mine c.other.inside.items.items _ _ c.self.view_is c.other.view_is c.requires.other c.other.invariant in
    on_ok_weaker c.add_many.result (λ h. sum.row c.add_many.new.items.items (h c.self.inside.targets c.self.invariant ∙ ap (xor_sets mine) c.as_slice-more.ensures)) c.add_many.ensures.ok
