use Rattle.std.proofs.Common.{◌∙◌, ap, set, not}
use Rattle.bit_rows.specs.private.Words.{bit_in}
use Rattle.bit_rows.proofs.BitsPut.{word_there, bit_seen, put_keeps, put_seen}
use Rattle.bit_rows.proofs.row.BitRow.flip.Goals as goal

pub flip_bit-requires : goal.flip_bit-requires
flip_bit-requires g c = word_there c.self.inside.places c.self.inside.marks c.self.inside.words.items c.args.self.now c.self.invariant c.self.view_is c.args.i c.requires c.as_mut_slice.result.now c.as_mut_slice.ensures.value

pub invariant_of-self : goal.invariant_of-self
invariant_of-self g c =
    put_keeps c.self.inside.places c.self.inside.marks c.self.inside.words.items c.args.self.now c.self.invariant c.self.view_is c.args.i c.requires
    c.as_mut_slice.result.now c.flip_bit.new.words _ (not (bit_in c.as_mut_slice.result.now c.args.i)) c.as_mut_slice.ensures.value c.as_mut_slice.ensures.len c.flip_bit.auto.words c.flip_bit.ensures
    c.mark-self-inside.result c.mark-self-inside.ensures

pub returns : goal.returns
returns g c =
    put_seen c.self.inside.places c.self.inside.marks c.self.inside.words.items c.args.self.now c.self.invariant c.self.view_is c.args.i c.requires
    c.as_mut_slice.result.now c.flip_bit.new.words _ (not (bit_in c.as_mut_slice.result.now c.args.i)) c.as_mut_slice.ensures.value c.as_mut_slice.ensures.len c.flip_bit.auto.words c.flip_bit.ensures
    ∙ ap (λ b. set c.args.self.now c.args.i (not b)) (bit_seen c.self.inside.places c.self.inside.marks c.self.inside.words.items c.args.self.now c.self.invariant c.self.view_is c.args.i c.requires c.as_mut_slice.result.now c.as_mut_slice.ensures.value)
