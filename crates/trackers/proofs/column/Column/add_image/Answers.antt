use Rattle.std.proofs.Common.{map, refl, ap, ap₂, sym, ◌∙◌}
use Rattle.std.proofs.lemmas.Result.{on_ok_weaker}
use Rattle.pauli_word.specs.Bits.{x_bit, z_bit, letters_of}
use Rattle.pauli_word.specs.Words.{letters_product}
use Rattle.trackers.specs.private.Transposed.{combined, xor_where}
use Rattle.trackers.proofs.ColumnLemmas.{image_of_letters, rows_long, stays_long}
use Rattle.trackers.proofs.column.Column.add_image.Goals as goal

pub add_parts-requires-clause-set : goal.add_parts-requires-clause-set
add_parts-requires-clause-set g c =
    let bits = g.S.TargetSet.bits in
    let here = rows_long (bits c.self.inside.x) (bits c.self.inside.z) c.args.self.now c.self.invariant c.self.view_is in
    sym (c.requires.from ∙ here)

pub add_parts-requires-clause-spare : goal.add_parts-requires-clause-spare
add_parts-requires-clause-spare g c = c.requires.spare ∙ sym c.requires.from

pub returns-in_err-add_parts-clause-len : goal.returns-in_err-add_parts-clause-len
returns-in_err-add_parts-clause-len g c =
    stays_long (g.S.TargetSet.bits c.self.inside.x) (g.S.TargetSet.bits c.self.inside.z) (g.S.TargetSet.bits c.add_parts.new.set) (g.S.TargetSet.bits c.self.inside.z) c.args.self.now c.self.invariant c.self.view_is c.add_parts.ensures.len refl

pub add_parts-requires-2-clause-set : goal.add_parts-requires-2-clause-set
add_parts-requires-2-clause-set g c =
    let bits = g.S.TargetSet.bits in
    let here = rows_long (bits c.self.inside.x) (bits c.self.inside.z) c.args.self.now c.self.invariant c.self.view_is in
    sym (c.requires.from ∙ (here ∙ c.self.invariant))

pub add_parts-requires-2-clause-spare : goal.add_parts-requires-2-clause-spare
add_parts-requires-2-clause-spare g c = c.add_parts.ensures.spare ∙ (c.requires.spare ∙ sym c.requires.from)

pub returns-clause-len : goal.returns-clause-len
returns-clause-len g c =
    stays_long (g.S.TargetSet.bits c.self.inside.x) (g.S.TargetSet.bits c.self.inside.z) (g.S.TargetSet.bits c.add_parts.new.set) (g.S.TargetSet.bits c.add_parts-2.new.set) c.args.self.now c.self.invariant c.self.view_is c.add_parts.ensures.len c.add_parts-2.ensures.len

pub returns-clause-ok : goal.returns-clause-ok
returns-clause-ok g c =
    let bits = g.S.TargetSet.bits in
    let sx = bits c.self.inside.x in
    let sz = bits c.self.inside.z in
    let here = rows_long sx sz c.args.self.now c.self.invariant c.self.view_is in
    let from = c.args.from.now in
    let x = c.args.x in
    let z = c.args.z in
    on_ok_weaker c.add_parts-2.result
    (λ last. ap₂ letters_of
    (c.in_ok-add_parts.ensures.ok ∙ ap₂ (λ p q. xor_where q (xor_where p sx (map x_bit from)) (map z_bit from)) c.has_x.ensures c.has_x-2.ensures)
    (last ∙ ap₂ (λ p q. xor_where q (xor_where p sz (map x_bit from)) (map z_bit from)) c.has_z.ensures c.has_z-2.ensures)
    ∙ (image_of_letters x z sx sz from c.self.invariant (c.requires.from ∙ here)
    ∙ ap (λ p. letters_product p (map (combined x z) from)) c.self.view_is))
    c.add_parts-2.ensures.ok
