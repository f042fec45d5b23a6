use Rattle.std.proofs.Common.{refl, ap, sym, ◌∙◌}
use Rattle.std.proofs.lemmas.Result.{on_ok_weaker}
use Rattle.gate_table.specs.declared.gate.Gate.{Gate}
use Rattle.gate_table.specs.declared.gate.Gate.TheVariants.{CX, CZ, Swap}
use Rattle.pauli_word.specs.declared.letter.Letter.TheVariants.{I, X, Z}
use Rattle.trackers.specs.Tracked.{each_word, undone_two}
use Rattle.trackers.specs.declared.images.PairImages.{PairImages}
use Rattle.trackers.specs.private.PairImages.{AreBefore}
use Rattle.trackers.specs.private.Transposed.{exchanged_at, multiplied_at}
use Rattle.trackers.proofs.ExchangeLemmas.{undone-exchanged}
use Rattle.trackers.proofs.MultiplyLemmas.{undone-multiplied, each_word-same}
use Rattle.trackers.proofs.words.WordsTracker.undo2.Goals as goal

pub returns-in-CX : goal.returns-in-CX
returns-in-CX g c =
    let a = c.args.a in
    let b = c.args.b in
    let images : PairImages = record { first_own = (X, Z); first_other = (I, Z); second_own = (X, Z); second_other = (X, I) } in
    let are : AreBefore CX images = record { first_own = refl; first_other = refl; second_own = refl; second_other = refl } in
    on_ok_weaker c.multiply.result
    (λ h. h
    ∙ each_word-same (multiplied_at a b (I, Z) (X, I)) (undone_two CX a b) c.args.self.now
    (λ w. undone-multiplied CX a b images w are (refl, refl) (refl, refl))
    ∙ ap (λ (gate : Gate). each_word (undone_two gate a b) c.args.self.now) (sym c.in-CX.is))
    c.multiply.ensures

pub returns-in-CZ : goal.returns-in-CZ
returns-in-CZ g c =
    let a = c.args.a in
    let b = c.args.b in
    let images : PairImages = record { first_own = (X, Z); first_other = (Z, I); second_own = (X, Z); second_other = (Z, I) } in
    let are : AreBefore CZ images = record { first_own = refl; first_other = refl; second_own = refl; second_other = refl } in
    on_ok_weaker c.multiply-in-CZ.result
    (λ h. h
    ∙ each_word-same (multiplied_at a b (Z, I) (Z, I)) (undone_two CZ a b) c.args.self.now
    (λ w. undone-multiplied CZ a b images w are (refl, refl) (refl, refl))
    ∙ ap (λ (gate : Gate). each_word (undone_two gate a b) c.args.self.now) (sym c.in-CZ.is))
    c.multiply-in-CZ.ensures

pub returns-in-Swap : goal.returns-in-Swap
returns-in-Swap g c =
    let a = c.args.a in
    let b = c.args.b in
    let images : PairImages = record { first_own = (I, I); first_other = (X, Z); second_own = (I, I); second_other = (X, Z) } in
    let are : AreBefore Swap images = record { first_own = refl; first_other = refl; second_own = refl; second_other = refl } in
    on_ok_weaker c.exchange.result
    (λ h. h
    ∙ each_word-same (exchanged_at a b (X, Z) (X, Z)) (undone_two Swap a b) c.args.self.now
    (λ w. undone-exchanged Swap a b images w are (refl, refl) (refl, refl))
    ∙ ap (λ (gate : Gate). each_word (undone_two gate a b) c.args.self.now) (sym c.in-Swap.is))
    c.exchange.ensures
