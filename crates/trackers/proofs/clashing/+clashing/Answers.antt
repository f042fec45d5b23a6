use Rattle.std.proofs.Common.{◌≡◌, ◌<◌, ◌++◌, List, false, length, map, ap, ap₂, subst, sym, ◌∙◌}
use Rattle.std.specs.Prelude.{All}
use Rattle.std.specs.List.{range_with_len}
use Rattle.std.proofs.lemmas.List.{length-replicate, take-append-drop}
use Rattle.std.proofs.lemmas.List.Elements.{All-take}
use Rattle.std.proofs.lemmas.Result.{on_ok_weaker}
use Rattle.step_model.specs.declared.step.Term.{Term}
use Rattle.trackers.proofs.HalfLemmas.{clashes_of_halves, is_hit}
use Rattle.trackers.proofs.clashing.+clashing.Goals as goal

pub returns-clause-ok : goal.returns-clause-ok
returns-clause-ok g t c =
    let bits = g.S.TargetSet.bits in
    let columns = c.args.columns.now in
    let terms = c.args.terms.now in
    let m = length (bits c.args.set.now) in
    let front = c.split_at.result.0.now in
    let back = c.split_at.result.1.now in
    let whole : front ++ back ≡ terms = ap₂ (λ (xs : List Term) (ys : List Term). xs ++ ys) c.split_at.ensures.front c.split_at.ensures.back ∙ take-append-drop _ terms in
    let low : All (λ (term : Term). term.qubit < length columns) front = subst (All (λ (term : Term). term.qubit < length columns)) (sym c.split_at.ensures.front) (All-take (λ (term : Term). term.qubit < length columns) _ terms c.requires.terms) in
    let long = ap length (c.in_ok-other.ensures ∙ c.clear.ensures) ∙ (length-replicate _ false ∙ (c.clashing.ensures.spare ∙ c.requires.spare)) in
    on_ok_weaker c.add.result
    (λ sum. sum
    ∙ clashes_of_halves m columns front back terms (bits c.clashing-2.new.set) (bits c.clashing.new.set) whole low c.in_ok-clashing.ensures.ok
    (c.in_ok-clashing-2.ensures.ok ∙ ap (λ n. map (is_hit columns front) (range_with_len 0 n)) long))
    c.add.ensures.ok
