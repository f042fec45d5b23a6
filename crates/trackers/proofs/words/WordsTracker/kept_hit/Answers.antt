use Rattle.std.proofs.Common.{◌≡◌, ◌∷◌, [], length, map, get_or, ap, sym, ◌∙◌, arith}
use Rattle.std.specs.List.{range_with_len}
use Rattle.std.proofs.lemmas.Option.{IfSome_then}
use Rattle.pauli_word.specs.Letters.{letters_clash}
use Rattle.pauli_word.specs.Words.{anticommute}
use Rattle.step_model.specs.Listing.{word_of_terms}
use Rattle.trackers.specs.Tracked.{anticommuting}
use Rattle.trackers.specs.private.Transposed.{word_at}
use Rattle.trackers.proofs.LengthLemmas.{lent}
use Rattle.trackers.proofs.LoneTerms.{lone_clash}
use Rattle.trackers.proofs.SetLemmas.{only_one}
use Rattle.trackers.proofs.TransposedLemmas.{ones_are_hit}
use Rattle.trackers.proofs.WordLemmas.{no_term, term_below}
use Rattle.trackers.proofs.words.WordsTracker.kept_hit.Goals as goal

pub returns-in-Some : goal.returns-in-Some
returns-in-Some g c =
    let m = c.self.inside.targets in
    let columns = c.self.inside.columns.items in
    let terms = c.args.terms.now in
    let row = g.S.TargetSet.bits c.in-Some.set.now in
    let term = get_or terms 0 no_term in
    let one : terms ≡ term ∷ [] = only_one terms no_term (omega (arith, c.in-len1.len_at_least, c.in-len1.len_below)) in
    let at = lent term.qubit _ _ c.self.invariant c.self.view_is (term_below terms _ 0 c.requires (omega (arith, c.in-len1.len_at_least))) c.index.ensures in
    let set =
    lone_clash m columns term row at.there at.within (c.in-Some.ensures ∙ ap (map (letters_clash term.letter)) at.is)
    ∙ ap (λ ts. map (λ t. anticommute (word_at columns t) (word_of_terms (length columns) ts)) (range_with_len 0 m)) (sym one) in
    IfSome_then c.kept.result c.kept.ensures
    (λ hit kept. kept ∙ (ones_are_hit m columns terms row set ∙ ap (anticommuting terms) c.self.view_is))
