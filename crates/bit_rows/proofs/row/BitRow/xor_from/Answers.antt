use Rattle.std.proofs.Common.{arith}
use Rattle.bit_rows.proofs.RowsSummed.{as_many_words, either_keeps, sum_seen, sum_long}
use Rattle.bit_rows.proofs.row.BitRow.xor_from.Goals as goal

pub xor_words-requires : goal.xor_words-requires
xor_words-requires g c =
    omega (arith, as_many_words c.self.inside.places c.self.inside.marks c.self.inside.words.items c.args.self.now c.self.invariant c.self.view_is c.other.inside.places c.other.inside.marks c.other.inside.words.items c.args.other.now c.other.invariant c.other.view_is c.requires _ _ c.as_mut_slice.ensures.value c.as_slice.ensures.value)

pub invariant_of-self : goal.invariant_of-self
invariant_of-self g c =
    either_keeps c.self.inside.places c.self.inside.marks c.self.inside.words.items c.args.self.now c.self.invariant c.self.view_is c.other.inside.places c.other.inside.marks c.other.inside.words.items c.args.other.now c.other.invariant c.other.view_is c.requires
    c.as_mut_slice.result.now c.as_slice.result.now c.xor_words.new.first _ c.as_mut_slice.ensures.value c.as_slice.ensures.value c.as_mut_slice.ensures.len c.xor_words.auto.first c.xor_words.ensures
    c.either-self-inside.result c.either-self-inside.ensures

pub returns-clause-sum : goal.returns-clause-sum
returns-clause-sum g c =
    sum_seen c.self.inside.places c.self.inside.marks c.self.inside.words.items c.args.self.now c.self.invariant c.self.view_is c.other.inside.places c.other.inside.marks c.other.inside.words.items c.args.other.now c.other.invariant c.other.view_is c.requires
    c.as_mut_slice.result.now c.as_slice.result.now c.xor_words.new.first _ c.as_mut_slice.ensures.value c.as_slice.ensures.value c.as_mut_slice.ensures.len c.xor_words.auto.first c.xor_words.ensures

pub returns-clause-len : goal.returns-clause-len
returns-clause-len g c =
    sum_long c.self.inside.places c.self.inside.marks c.self.inside.words.items c.args.self.now c.self.invariant c.self.view_is c.other.inside.places c.other.inside.marks c.other.inside.words.items c.args.other.now c.other.invariant c.other.view_is c.requires
    c.as_mut_slice.result.now c.as_slice.result.now c.xor_words.new.first _ c.as_mut_slice.ensures.value c.as_slice.ensures.value c.as_mut_slice.ensures.len c.xor_words.auto.first c.xor_words.ensures
