use Rattle.std.proofs.Common.{[], append-nil, ap, inl, inr, refl, subst, sym, true, ◌∙◌}
use Rattle.stim_lexer.specs.Lines.{lines_of}
use Rattle.stim_lexer.specs.Texts.{items_from}
use Rattle.dem_text.specs.Texts.{models}
use Rattle.dem_text.specs.private.Making.{HasKeptLines}
use Rattle.dem_text.proofs.ReaderLemmas.{kept-few, kept-text, nothing-made}
use Rattle.dem_text.proofs.reader.kept_in.Goals as goal

pub returns-in-Closed-clause-ok : goal.returns-in-Closed-clause-ok
returns-in-Closed-clause-ok g c =
    let kept = subst (HasKeptLines 0 [] c.args.text.now 0 true) c.in-Closed.is (c.in_ok-kept.ensures 0 [] (nothing-made _ c.new.ensures.text) refl) in
    kept-text _ _ _ _ kept.0 (kept.1 refl)

pub returns-in-Closed-clause-few : goal.returns-in-Closed-clause-few
returns-in-Closed-clause-few g c =
    let kept = subst (HasKeptLines 0 [] c.args.text.now 0 true) c.in-Closed.is (c.in_ok-kept.ensures 0 [] (nothing-made _ c.new.ensures.text) refl) in
    kept-few _ _ _ _ kept.0

pub returns-clause-err : goal.returns-clause-err
returns-clause-err g c =
    let text = c.args.text.now in
    let kept = c.in_ok-kept.ensures 0 [] (nothing-made _ c.new.ensures.text) refl in
    elim c.in-Open.is [
      | inl e ↦ inr (subst (HasKeptLines 0 [] text 0 true) e kept)
      | inr e ↦ inr (ap (items_from models [] 0) (sym (append-nil (lines_of text))) ∙ subst (HasKeptLines 0 [] text 0 true) e kept [])
    ]
