use Rattle.std.proofs.Common.{◌≡◌, ◌<◌, ◌≤◌, ◌+◌, ◌∷◌, false, length, map, drop, get_or, ap, sym, ◌∙◌, arith}
use Rattle.std.proofs.lemmas.List.{drop_more, drop_all, length-map}
use Rattle.std.proofs.lemmas.List.FromFn.{fill_by_all}
use Rattle.pauli_word.specs.Letters.{letters_clash}
use Rattle.pauli_word.specs.Parity.{exclusive_or}
use Rattle.pauli_word.specs.Words.{anticommute}
use Rattle.pauli_word.proofs.Parities.{exclusive_or-false}
use Rattle.step_model.specs.Listing.{word_of_terms}
use Rattle.trackers.specs.private.Transposed.{word_at}
use Rattle.trackers.proofs.LengthLemmas.{column_at}
use Rattle.trackers.proofs.TransposedLemmas.{get_or-xor_rows, clash_more, clash_none, clash_rows}
use Rattle.trackers.proofs.WordLemmas.{no_term, term_below}
use Rattle.trackers.proofs.clashing.clashing_in_turn.Goals as goal

pub toggle_clashing-requires-clause-set : goal.toggle_clashing-requires-clause-set
toggle_clashing-requires-clause-set g c =
    let at = column_at _ _ _ c.requires.long (term_below c.args.terms.now _ c.loop-term.term-index c.requires.terms (omega arith)) c.index-columns-term.is in
    at.as_long _ c.loop-term.invariant.long

pub toggle_clashing-requires-clause-spare : goal.toggle_clashing-requires-clause-spare
toggle_clashing-requires-clause-spare g c =
    let at = column_at _ _ _ c.requires.long (term_below c.args.terms.now _ c.loop-term.term-index c.requires.terms (omega arith)) c.index-columns-term.is in
    at.as_long _ (c.loop-term.invariant.spare_long ∙ c.requires.spare)

pub loop-term-preserved : goal.loop-term-preserved
loop-term-preserved g c =
    let bits = g.S.TargetSet.bits in
    let columns = c.args.columns.now in
    let terms = c.args.terms.now in
    let i = c.loop-term.term-index in
    let within : i < length terms = omega arith in
    let term = get_or terms i no_term in
    let read : drop i terms ≡ term ∷ drop (i + 1) terms = drop_more terms i no_term within in
    let at = column_at term.qubit c.index-columns-term.result _ c.requires.long (term_below terms _ i c.requires.terms within) c.index-columns-term.is in
    let row = bits c.loop-term.set in
    let clashing = map (letters_clash term.letter) c.index-columns-term.result in
    let same : length row ≡ length clashing = c.loop-term.invariant.long ∙ sym (length-map c.index-columns-term.result (letters_clash term.letter) ∙ at.long) in
    let size : length (bits c.toggle_clashing.new.set) ≡ length row = c.toggle_clashing.ensures.len in
    record {
      long = size ∙ c.loop-term.invariant.long;
      spare_long = c.toggle_clashing.ensures.spare ∙ c.loop-term.invariant.spare_long;
      each =
          λ t lt. let inside : t < length row = omega (arith, lt, size) in
          ap (λ odd. exclusive_or odd (anticommute (word_at columns t) (word_of_terms (length columns) (drop (i + 1) terms))))
          (ap (λ r. get_or r t false) c.in_ok-toggle_clashing.ensures.ok
          ∙ (get_or-xor_rows row clashing t same ∙ ap (exclusive_or (get_or row t false)) (clash_rows term.letter c.index-columns-term.result t (omega (arith, inside, at.long, c.loop-term.invariant.long)))))
          ∙ clash_more columns t (get_or row t false) term (drop (i + 1) terms) c.index-columns-term.result (anticommute (word_at columns t) (word_of_terms (length columns) terms)) at.within at.is
          (ap (λ ts. exclusive_or (get_or row t false) (anticommute (word_at columns t) (word_of_terms (length columns) ts))) (sym read) ∙ c.loop-term.invariant.each t inside);
    }

pub returns-clause-ok : goal.returns-clause-ok
returns-clause-ok g c =
    let bits = g.S.TargetSet.bits in
    let columns = c.args.columns.now in
    let terms = c.args.terms.now in
    let i = c.loop-term.term-index in
    let past : length terms ≤ i = omega arith in
    let row = bits c.loop-term.set in
    fill_by_all (λ t. anticommute (word_at columns t) (word_of_terms (length columns) terms)) row (length (bits c.args.set.now)) false c.loop-term.invariant.long
    (λ t lt. sym (exclusive_or-false (get_or row t false))
    ∙ (ap (exclusive_or (get_or row t false)) (sym (ap (λ ts. anticommute (word_at columns t) (word_of_terms (length columns) ts)) (drop_all i terms past) ∙ clash_none columns t))
    ∙ c.loop-term.invariant.each t (omega (arith, lt, c.loop-term.invariant.long))))
