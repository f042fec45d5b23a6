use Rattle.bit_rows.proofs.BitsPut.{word_there, put_keeps, put_seen}
use Rattle.bit_rows.proofs.row.BitRow.set.Goals as goal

pub put_bit-requires : goal.put_bit-requires
put_bit-requires g c = word_there c.self.inside.places c.self.inside.marks c.self.inside.words.items c.args.self.now c.self.invariant c.self.view_is c.args.i c.requires c.as_mut_slice.result.now c.as_mut_slice.ensures.value

pub invariant_of-self : goal.invariant_of-self
invariant_of-self g c =
    put_keeps c.self.inside.places c.self.inside.marks c.self.inside.words.items c.args.self.now c.self.invariant c.self.view_is c.args.i c.requires
    c.as_mut_slice.result.now c.put_bit.new.words _ c.args.b c.as_mut_slice.ensures.value c.as_mut_slice.ensures.len c.put_bit.auto.words c.put_bit.ensures
    c.mark-self-inside.result c.mark-self-inside.ensures

pub returns : goal.returns
returns g c =
    put_seen c.self.inside.places c.self.inside.marks c.self.inside.words.items c.args.self.now c.self.invariant c.self.view_is c.args.i c.requires
    c.as_mut_slice.result.now c.put_bit.new.words _ c.args.b c.as_mut_slice.ensures.value c.as_mut_slice.ensures.len c.put_bit.auto.words c.put_bit.ensures
