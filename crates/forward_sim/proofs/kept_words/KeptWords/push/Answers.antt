-- The new number stands behind the others, which keep their words.
use Rattle.std.proofs.Common.{◌<◌, ◌∷◌, [], ◌++◌, length, sym, ap, subst, ◌∙◌}
use Rattle.std.specs.List.{All}
use Rattle.std.specs.Prelude.{map}
use Rattle.forward_sim.specs.References.{entry_of}
use Rattle.forward_sim.specs.private.Kept.{KeptSoFar, entry_with, terms_listed}
use Rattle.forward_sim.proofs.NumberedWords.{inside_more, inside_still, kept_more}
use Rattle.forward_sim.proofs.kept_words.KeptWords.push.Goals as goal

pub invariant_of-self-2 : goal.invariant_of-self-2
invariant_of-self-2 g c =
    let new = c.number.new.self in
    subst (All (λ n. n < length new)) (sym c.in_ok-push.ensures.items)
    (inside_more c.self.inside.words new c.self.inside.numbers.items c.in_ok-number.number c.in_ok-number.ensures.stay c.self.invariant c.in_ok-number.ensures.inside)

pub returns-clause-kept : goal.returns-clause-kept
returns-clause-kept g c whole =
    let new = c.number.new.self in
    ap (map (entry_with new)) c.in_ok-push.ensures.items
    ∙ kept_more c.self.inside.words new c.self.inside.numbers.items c.in_ok-number.number c.args.list.now c.in_ok-number.ensures.stay c.self.invariant c.in_ok-number.ensures.word
    ∙ ap (λ (k : KeptSoFar). k.replaced ++ entry_of (terms_listed c.args.list.now) ∷ []) c.self.view_is

pub number-requires-clause-inside : goal.number-requires-clause-inside
number-requires-clause-inside g c = c.find-found.ensures.inside

pub number-requires-clause-found : goal.number-requires-clause-found
number-requires-clause-found g c = c.find-found.ensures.found

pub overflow_sub-self : goal.overflow_sub-self
overflow_sub-self g c = c.if-taken-self.false

pub returns-clause-whole : goal.returns-clause-whole
returns-clause-whole g c whole = sym (ap (λ (k : KeptSoFar). k.whole) c.self.view_is) ∙ whole

pub invariant_of-self : goal.invariant_of-self
invariant_of-self g c =
    inside_still c.self.inside.words c.number.new.self c.self.inside.numbers.items c.number.ensures.stay c.self.invariant

pub invariant_of-self-in_err-push : goal.invariant_of-self-in_err-push
invariant_of-self-in_err-push g c =
    let new = c.number.new.self in
    subst (All (λ n. n < length new)) (sym c.in_err-push.ensures.items)
    (inside_still c.self.inside.words new c.self.inside.numbers.items c.number.ensures.stay c.self.invariant)
