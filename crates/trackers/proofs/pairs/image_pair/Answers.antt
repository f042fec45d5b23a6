use Rattle.std.proofs.Common.{List, [], length, map, ap, ap₂, sym, ◌∙◌}
use Rattle.std.proofs.lemmas.List.{get_or_default}
use Rattle.std.proofs.lemmas.Result.{on_ok_weaker}
use Rattle.pauli_word.specs.declared.letter.Letter.{Letter}
use Rattle.pauli_word.specs.Words.{letters_product}
use Rattle.trackers.specs.private.Transposed.{combined}
use Rattle.trackers.proofs.pairs.image_pair.Goals as goal

-- a column's images, from those of X and Z
abbrev image_by : Letter × Letter → List Letter → List Letter
image_by images column = map (combined images.0 images.1) column

pub set_images-requires-clause-first : goal.set_images-requires-clause-first
set_images-requires-clause-first g c = ap length c.index-columns-a.is ∙ (c.requires.long c.args.a _ c.requires.first_place ∙ sym c.requires.first_long)

pub set_images-requires-clause-second : goal.set_images-requires-clause-second
set_images-requires-clause-second g c = ap length c.index-columns-b.is ∙ (c.requires.long c.args.b _ c.requires.second_place ∙ sym c.requires.first_long)

pub set_images-requires-clause-spare : goal.set_images-requires-clause-spare
set_images-requires-clause-spare g c = sym c.requires.first_long

pub set_images-requires-2-clause-first : goal.set_images-requires-2-clause-first
set_images-requires-2-clause-first g c = ap length c.index-columns-a-2.is ∙ (c.requires.long c.args.a _ c.requires.first_place ∙ sym c.requires.second_long)

pub set_images-requires-2-clause-second : goal.set_images-requires-2-clause-second
set_images-requires-2-clause-second g c = ap length c.index-columns-b-2.is ∙ (c.requires.long c.args.b _ c.requires.second_place ∙ sym c.requires.second_long)

pub set_images-requires-2-clause-spare : goal.set_images-requires-2-clause-spare
set_images-requires-2-clause-spare g c = c.set_images.ensures.spare ∙ sym c.requires.second_long

pub returns-clause-first : goal.returns-clause-first
returns-clause-first g c =
    let columns = c.args.columns.now in
    let are = c.images_before-images.ensures in
    on_ok_weaker c.set_images-2.result
    (λ h. c.in_ok-set_images.ensures.ok
    ∙ ap₂ letters_product
    (ap₂ image_by are.first_own (c.index-columns-a.is ∙ get_or_default columns c.args.a _ [] c.requires.first_place))
    (ap₂ image_by are.first_other (c.index-columns-b.is ∙ get_or_default columns c.args.b _ [] c.requires.second_place)))
    c.set_images-2.ensures.ok

pub returns-clause-second : goal.returns-clause-second
returns-clause-second g c =
    let columns = c.args.columns.now in
    let are = c.images_before-images.ensures in
    on_ok_weaker c.set_images-2.result
    (λ h. h
    ∙ ap₂ letters_product
    (ap₂ image_by are.second_other (c.index-columns-a-2.is ∙ get_or_default columns c.args.a _ [] c.requires.first_place))
    (ap₂ image_by are.second_own (c.index-columns-b-2.is ∙ get_or_default columns c.args.b _ [] c.requires.second_place)))
    c.set_images-2.ensures.ok
