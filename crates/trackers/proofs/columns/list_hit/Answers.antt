use Rattle.std.proofs.Common.{◌≡◌, ◌∷◌, [], length, get_or, ap, sym, ◌∙◌, arith}
use Rattle.std.specs.Prelude.{map}
use Rattle.std.specs.List.{range_with_len}
use Rattle.std.proofs.lemmas.Result.{on_ok_weaker}
use Rattle.pauli_word.specs.Letters.{letters_clash}
use Rattle.pauli_word.specs.Words.{anticommute}
use Rattle.step_model.specs.Listing.{word_of_terms}
use Rattle.trackers.specs.private.Transposed.{word_at}
use Rattle.trackers.proofs.LengthLemmas.{column_at}
use Rattle.trackers.proofs.LoneTerms.{lone_clash}
use Rattle.trackers.proofs.SetLemmas.{only_one}
use Rattle.trackers.proofs.TransposedLemmas.{ones_are_hit}
use Rattle.trackers.proofs.WordLemmas.{no_term, term_below}
use Rattle.trackers.proofs.columns.list_hit.Goals as goal

pub sum_both-requires-clause-first_in_range : goal.sum_both-requires-clause-first_in_range
sum_both-requires-clause-first_in_range g c = term_below c.args.terms.now _ 0 c.requires.terms (omega (arith, c.in-len2.len_at_least))

pub sum_both-requires-clause-second_in_range : goal.sum_both-requires-clause-second_in_range
sum_both-requires-clause-second_in_range g c = term_below c.args.terms.now _ 1 c.requires.terms (omega (arith, c.in-len2.len_at_least))

pub sum_both-requires-clause-same : goal.sum_both-requires-clause-same
sum_both-requires-clause-same g c =
    c.requires.long _ [] (term_below c.args.terms.now _ 0 c.requires.terms (omega (arith, c.in-len2.len_at_least)))
    ∙ sym (c.requires.long _ [] (term_below c.args.terms.now _ 1 c.requires.terms (omega (arith, c.in-len2.len_at_least))))

pub returns-in-Some-clause-hit : goal.returns-in-Some-clause-hit
returns-in-Some-clause-hit g c =
    let m = length (g.S.TargetSet.bits c.args.set.now) in
    let columns = c.args.columns.now in
    let terms = c.args.terms.now in
    let row = g.S.TargetSet.bits c.in-Some.set.now in
    let term = get_or terms 0 no_term in
    let one : terms ≡ term ∷ [] = only_one terms no_term (omega (arith, c.in-len1.len_at_least, c.in-len1.len_below)) in
    let at = column_at term.qubit _ _ c.requires.long (term_below terms _ 0 c.requires.terms (omega (arith, c.in-len1.len_at_least))) c.index-columns-term.is in
    let set =
    lone_clash m columns term row at.there at.within (c.in-Some.ensures ∙ ap (map (letters_clash term.letter)) at.is)
    ∙ ap (λ ts. map (λ t. anticommute (word_at columns t) (word_of_terms (length columns) ts)) (range_with_len 0 m)) (sym one) in
    on_ok_weaker c.list.result (λ h. h ∙ ones_are_hit m columns terms row set) c.list.ensures

pub returns-clause-hit : goal.returns-clause-hit
returns-clause-hit g c =
    on_ok_weaker c.list-2.result
    (λ h. h ∙ ones_are_hit (length (g.S.TargetSet.bits c.args.set.now)) c.args.columns.now c.args.terms.now (g.S.TargetSet.bits c.clashing.new.set) c.in_ok-clashing.ensures.ok)
    c.list-2.ensures
