use Rattle.std.proofs.Common.{length, ap, subst, sym, ◌∙◌}
use Rattle.std.proofs.lemmas.List.{with_items_is}
use Rattle.trackers.specs.private.Transposed.{ArePlaces, exchanged_at, exchanged_columns}
use Rattle.trackers.proofs.ExchangeLemmas.{tracked_exchanged}
use Rattle.trackers.proofs.LengthLemmas.{at_columns, given_back, lent_long, words_changed}
use Rattle.trackers.proofs.words.Words.exchange.Goals as goal

pub exchange_pair-requires-clause-places : goal.exchange_pair-requires-clause-places
exchange_pair-requires-clause-places g c =
    subst (λ n. ArePlaces n c.args.a c.args.b) (sym (ap length c.as_mut_slice-columns.ensures.value))
    (at_columns c.self.inside.targets c.self.inside.columns.items c.args.self.now c.self.view_is c.requires.places)

pub exchange_pair-requires-clause-long : goal.exchange_pair-requires-clause-long
exchange_pair-requires-clause-long g c =
    lent_long c.self.inside.targets c.self.inside.columns.items _ (g.S.TargetSet.bits c.self.inside.spare) c.as_mut_slice-columns.ensures.value c.self.invariant.spare_long c.self.invariant.columns_long

pub exchange_pair-requires-clause-other : goal.exchange_pair-requires-clause-other
exchange_pair-requires-clause-other g c = c.self.invariant.first_long ∙ sym c.self.invariant.spare_long

pub invariant_of-self : goal.invariant_of-self
invariant_of-self g c =
    given_back _ c.exchange_pair.new.columns c.exchange_pair.new.other (g.S.TargetSet.bits c.exchange_pair.new.spare) c.self.invariant
    (with_items_is c.self.inside.columns c.exchange_pair.new.columns (c.exchange_pair.auto.columns ∙ c.as_mut_slice-columns.ensures.len))
    c.exchange_pair.ensures.long c.exchange_pair.ensures.other c.exchange_pair.ensures.spare

pub returns : goal.returns
returns g c =
    words_changed c.exchange_pair.result (exchanged_columns c.args.a c.args.b c.args.to_first c.args.to_second) (exchanged_at c.args.a c.args.b c.args.to_first c.args.to_second) c.args.self.now _ c.exchange_pair.new.columns _
    c.self.invariant c.self.view_is c.requires.places (tracked_exchanged c.self.inside.targets c.self.inside.columns.items c.args.a c.args.b c.args.to_first c.args.to_second)
    c.as_mut_slice-columns.ensures.value (with_items_is c.self.inside.columns c.exchange_pair.new.columns (c.exchange_pair.auto.columns ∙ c.as_mut_slice-columns.ensures.len)) c.exchange_pair.ensures.columns
