use Rattle.std.proofs.Common.{map, ap, sym, ◌∙◌}
use Rattle.std.proofs.lemmas.Result.{on_ok_weaker}
use Rattle.pauli_word.specs.Words.{letters_product}
use Rattle.trackers.specs.private.Transposed.{combined}
use Rattle.trackers.proofs.MultiplyLemmas.{lost-letters}
use Rattle.trackers.proofs.column.multiply_both.Goals as goal

pub returns-clause-second : goal.returns-clause-second
returns-clause-second g c =
    let first = c.args.first.now in
    let second = c.args.second.now in
    let x = c.args.to_second.0 in
    let z = c.args.to_second.1 in
    on_ok_weaker c.add_image-2.result
    (λ h. h
    ∙ ap (letters_product second)
    (ap (map (combined x z)) c.in_ok-add_image.ensures.ok
    ∙ lost-letters x z c.args.to_first.0 c.args.to_first.1 first second (sym c.requires.same) c.requires.x_is_lost c.requires.z_is_lost))
    c.add_image-2.ensures.ok
