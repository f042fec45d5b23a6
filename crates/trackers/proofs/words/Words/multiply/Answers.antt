use Rattle.std.proofs.Common.{length, refl, ap, subst, sym, ◌∙◌}
use Rattle.std.proofs.lemmas.List.{with_items_is}
use Rattle.trackers.specs.private.Transposed.{ArePlaces, multiplied_at, multiplied_columns}
use Rattle.trackers.proofs.LengthLemmas.{at_columns, given_back, lent_long, words_changed}
use Rattle.trackers.proofs.MultiplyLemmas.{tracked_multiplied}
use Rattle.trackers.proofs.words.Words.multiply.Goals as goal

pub multiply_pair-requires-clause-places : goal.multiply_pair-requires-clause-places
multiply_pair-requires-clause-places g c =
    subst (λ n. ArePlaces n c.args.a c.args.b) (sym (ap length c.as_mut_slice-columns.ensures.value))
    (at_columns c.self.inside.targets c.self.inside.columns.items c.args.self.now c.self.view_is c.requires.places)

pub multiply_pair-requires-clause-long : goal.multiply_pair-requires-clause-long
multiply_pair-requires-clause-long g c =
    lent_long c.self.inside.targets c.self.inside.columns.items _ (g.S.TargetSet.bits c.self.inside.spare) c.as_mut_slice-columns.ensures.value c.self.invariant.spare_long c.self.invariant.columns_long

pub invariant_of-self : goal.invariant_of-self
invariant_of-self g c =
    given_back _ c.multiply_pair.new.columns c.self.inside.first (g.S.TargetSet.bits c.multiply_pair.new.spare) c.self.invariant
    (with_items_is c.self.inside.columns c.multiply_pair.new.columns (c.multiply_pair.auto.columns ∙ c.as_mut_slice-columns.ensures.len))
    c.multiply_pair.ensures.long refl c.multiply_pair.ensures.spare

pub returns : goal.returns
returns g c =
    words_changed c.multiply_pair.result (multiplied_columns c.args.a c.args.b c.args.to_first c.args.to_second) (multiplied_at c.args.a c.args.b c.args.to_first c.args.to_second) c.args.self.now _ c.multiply_pair.new.columns _
    c.self.invariant c.self.view_is c.requires.places (tracked_multiplied c.self.inside.targets c.self.inside.columns.items c.args.a c.args.b c.args.to_first c.args.to_second)
    c.as_mut_slice-columns.ensures.value (with_items_is c.self.inside.columns c.multiply_pair.new.columns (c.multiply_pair.auto.columns ∙ c.as_mut_slice-columns.ensures.len)) c.multiply_pair.ensures.columns
