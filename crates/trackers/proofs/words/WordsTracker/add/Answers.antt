use Rattle.std.proofs.Common.{length, set, refl, ap, ◌∙◌, arith}
use Rattle.std.proofs.lemmas.Result.{on_ok_weaker}
use Rattle.trackers.specs.Tracked.{Tracked, added}
use Rattle.trackers.specs.private.Transposed.{tracked_of, times_each}
use Rattle.trackers.proofs.KeptLemmas.{words_long}
use Rattle.trackers.proofs.LengthLemmas.{column_given_back, lent}
use Rattle.trackers.proofs.TransposedLemmas.{tracked_added}
use Rattle.trackers.proofs.words.WordsTracker.add.Goals as goal

pub times_each-requires-clause-targets : goal.times_each-requires-clause-targets
times_each-requires-clause-targets g c =
    let at = lent c.args.q _ _ c.self.invariant c.self.view_is c.requires.in_range c.index_mut.ensures.value in
    let words = ap (λ (t : Tracked). length t.words) c.self.view_is in
    let size = words_long c.self.inside.targets c.self.inside.columns.items in
    λ k d lt. let low = c.requires.named k d lt in omega (arith, low, words, size, at.long)

pub times_each-requires-clause-set : goal.times_each-requires-clause-set
times_each-requires-clause-set g c = (lent c.args.q _ _ c.self.invariant c.self.view_is c.requires.in_range c.index_mut.ensures.value).as_long _ c.self.invariant.set_long

pub times_each-requires-clause-spare : goal.times_each-requires-clause-spare
times_each-requires-clause-spare g c = (lent c.args.q _ _ c.self.invariant c.self.view_is c.requires.in_range c.index_mut.ensures.value).as_long _ c.self.invariant.spare_long

pub invariant_of-self : goal.invariant_of-self
invariant_of-self g c =
    let bits = g.S.TargetSet.bits in
    let at = lent c.args.q _ _ c.self.invariant c.self.view_is c.requires.in_range c.index_mut.ensures.value in
    column_given_back c.args.q c.times_each.new.self c.self.inside.first (bits c.times_each.new.set) (bits c.times_each.new.spare) c.self.invariant
    (c.times_each.ensures.len ∙ at.long) refl c.times_each.ensures.set c.times_each.ensures.spare

pub returns : goal.returns
returns g c =
    let m = c.self.inside.targets in
    let columns = c.self.inside.columns.items in
    let q = c.args.q in
    let ts = c.args.targets.now in
    let letter = c.args.letter in
    let words = ap (λ (t : Tracked). length t.words) c.self.view_is in
    let size = words_long m columns in
    let at = lent q _ _ c.self.invariant c.self.view_is c.requires.in_range c.index_mut.ensures.value in
    on_ok_weaker c.times_each.result
    (λ h. ap (λ column. tracked_of m (set columns q column)) (h ∙ ap (times_each letter ts) at.is)
    ∙ (tracked_added m columns q ts letter at.within c.requires.ascending (λ k d lt. let low = c.requires.named k d lt in omega (arith, low, words, size, at.there))
    ∙ ap (added ts letter q) c.self.view_is))
    c.times_each.ensures.ok
