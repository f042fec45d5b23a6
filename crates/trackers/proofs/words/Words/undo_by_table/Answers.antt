use Rattle.std.proofs.Common.{◌≡◌, sym, ◌∙◌}
use Rattle.std.proofs.lemmas.Result.{on_ok_weaker}
use Rattle.pauli_word.specs.declared.letter.Letter.TheVariants.{X, Z}
use Rattle.trackers.specs.Tracked.{undone_two}
use Rattle.trackers.specs.private.Transposed.{exchanged_at, multiplied_at}
use Rattle.trackers.proofs.ExchangeLemmas.{undone-exchanged}
use Rattle.trackers.proofs.MultiplyLemmas.{each_word-same, undone-multiplied}
use Rattle.trackers.proofs.words.Words.undo_by_table.Goals as goal
use Rattle.trackers.proofs.words.Words.undo_by_table.Goals.{then-is_kept, else-is_kept}

pub multiply-requires-clause-x_is_lost : goal.multiply-requires-clause-x_is_lost
multiply-requires-clause-x_is_lost g c = c.is_lost.ensures c.if-is_lost.true

pub multiply-requires-clause-z_is_lost : goal.multiply-requires-clause-z_is_lost
multiply-requires-clause-z_is_lost g c = c.is_lost-then-is_lost.ensures c.if-is_lost-2.true

pub returns-then-is_lost-2 : goal.returns-then-is_lost-2
returns-then-is_lost-2 g c =
    let gate = c.args.gate in
    let images = c.images_before-images.result in
    let kept : ((images.first_own.0 ≡ X) × (images.first_own.1 ≡ Z)) × ((images.second_own.0 ≡ X) × (images.second_own.1 ≡ Z)) =
    elim c.if-is_kept.branch [
      | then-is_kept w ↦ (c.is_kept.ensures w.if-is_kept.true, w.is_kept-kept.ensures (sym w.kept-is ∙ c.if-kept.true))
      | else-is_kept w ↦ let no = sym w.kept-is ∙ c.if-kept.true in cc
    ] in
    on_ok_weaker c.multiply.result
    (λ h. h
    ∙ each_word-same (multiplied_at c.args.a c.args.b images.first_other images.second_other) (undone_two gate c.args.a c.args.b) c.args.self.now
    (λ w. undone-multiplied gate c.args.a c.args.b images w c.images_before-images.ensures kept.0 kept.1))
    c.multiply.ensures

pub returns-then-is_left-2 : goal.returns-then-is_left-2
returns-then-is_left-2 g c =
    let gate = c.args.gate in
    let images = c.images_before-images.result in
    on_ok_weaker c.exchange.result
    (λ h. h
    ∙ each_word-same (exchanged_at c.args.a c.args.b images.first_other images.second_other) (undone_two gate c.args.a c.args.b) c.args.self.now
    (λ w. undone-exchanged gate c.args.a c.args.b images w c.images_before-images.ensures (c.is_left.ensures c.if-is_left.true) (c.is_left-then-is_left.ensures c.if-is_left-2.true)))
    c.exchange.ensures
