use Rattle.std.proofs.Common.{map, set, refl, ap, ap₂, ◌∙◌}
use Rattle.std.proofs.lemmas.Result.{on_ok_weaker}
use Rattle.gate_table.specs.Images.{image1, inverse_of}
use Rattle.pauli_word.specs.declared.letter.Letter.TheVariants.{X, Z}
use Rattle.trackers.specs.Tracked.{each_word, undone_one}
use Rattle.trackers.specs.private.Transposed.{tracked_of, combined}
use Rattle.trackers.proofs.GateLemmas.{arity_kept}
use Rattle.trackers.proofs.LengthLemmas.{column_given_back, lent}
use Rattle.trackers.proofs.TransposedLemmas.{tracked_one}
use Rattle.trackers.proofs.words.Words.undo_one_by_table.Goals as goal

pub image1-x-requires : goal.image1-x-requires
image1-x-requires g c = arity_kept c.args.gate c.inverse-inverse.result c.inverse-inverse.ensures c.requires.arity

pub image1-z-requires : goal.image1-z-requires
image1-z-requires g c = arity_kept c.args.gate c.inverse-inverse.result c.inverse-inverse.ensures c.requires.arity

pub become_image-requires-clause-other : goal.become_image-requires-clause-other
become_image-requires-clause-other g c = (lent c.args.q _ _ c.self.invariant c.self.view_is c.requires.in_range c.index_mut.ensures.value).as_long _ c.self.invariant.first_long

pub become_image-requires-clause-spare : goal.become_image-requires-clause-spare
become_image-requires-clause-spare g c = (lent c.args.q _ _ c.self.invariant c.self.view_is c.requires.in_range c.index_mut.ensures.value).as_long _ c.self.invariant.spare_long

pub invariant_of-self : goal.invariant_of-self
invariant_of-self g c =
    let at = lent c.args.q _ _ c.self.invariant c.self.view_is c.requires.in_range c.index_mut.ensures.value in
    column_given_back c.args.q c.become_image.new.self c.become_image.new.other (g.S.TargetSet.bits c.self.inside.set) (g.S.TargetSet.bits c.become_image.new.spare) c.self.invariant
    (c.become_image.ensures.len ∙ at.long) c.become_image.ensures.other refl c.become_image.ensures.spare

pub returns : goal.returns
returns g c =
    let m = c.self.inside.targets in
    let columns = c.self.inside.columns.items in
    let q = c.args.q in
    let at = lent q _ _ c.self.invariant c.self.view_is c.requires.in_range c.index_mut.ensures.value in
    let x = ap (λ r. r.0) (c.image1-x.ensures ∙ ap (λ h. image1 h X) c.inverse-inverse.ensures) in
    let z = ap (λ r. r.0) (c.image1-z.ensures ∙ ap (λ h. image1 h Z) c.inverse-inverse.ensures) in
    on_ok_weaker c.become_image.result
    (λ h. ap (λ column. tracked_of m (set columns q column))
    (h ∙ (ap₂ (λ x z. map (combined x z) c.index_mut.result.now) x z ∙ ap (map (combined (image1 (inverse_of c.args.gate) X).0 (image1 (inverse_of c.args.gate) Z).0)) at.is))
    ∙ (tracked_one m columns q c.args.gate at.within at.there ∙ ap (each_word (undone_one c.args.gate q)) c.self.view_is))
    c.become_image.ensures.ok
