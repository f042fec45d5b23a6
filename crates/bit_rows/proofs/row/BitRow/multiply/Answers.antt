use Rattle.std.proofs.Common.{◌≡◌, ◌∙◌, sym, refl}
use Rattle.bit_rows.proofs.Marked.{marked_by_slice, marked_more}
use Rattle.bit_rows.proofs.Places.{same_places, held_by_slice, seen_by_slice}
use Rattle.bit_rows.proofs.RowsSummed.{as_many_words, noted_keeps, sum_seen, sum_long}
use Rattle.bit_rows.proofs.RowTotals.{phase_of_rows}
use Rattle.bit_rows.proofs.row.BitRow.multiply.Goals as goal

pub multiply_words-power-requires-clause-long : goal.multiply_words-power-requires-clause-long
multiply_words-power-requires-clause-long g c =
    record {
      za_long = as_many_words c.xa.inside.places c.xa.inside.marks c.xa.inside.words.items c.args.xa.now c.xa.invariant c.xa.view_is c.za.inside.places c.za.inside.marks c.za.inside.words.items c.args.za.now c.za.invariant c.za.view_is (sym c.requires.za) _ _ c.as_mut_slice.ensures.value c.as_mut_slice-2.ensures.value;
      xb_long = as_many_words c.xa.inside.places c.xa.inside.marks c.xa.inside.words.items c.args.xa.now c.xa.invariant c.xa.view_is c.xb.inside.places c.xb.inside.marks c.xb.inside.words.items c.args.xb.now c.xb.invariant c.xb.view_is (sym c.requires.xb) _ _ c.as_mut_slice.ensures.value c.as_slice-x.ensures.value;
      zb_long = as_many_words c.xa.inside.places c.xa.inside.marks c.xa.inside.words.items c.args.xa.now c.xa.invariant c.xa.view_is c.zb.inside.places c.zb.inside.marks c.zb.inside.words.items c.args.zb.now c.zb.invariant c.zb.view_is (sym c.requires.zb) _ _ c.as_mut_slice.ensures.value c.as_slice-z.ensures.value;
    }

pub multiply_words-power-requires-clause-marks : goal.multiply_words-power-requires-clause-marks
multiply_words-power-requires-clause-marks g c =
    record {
      of_x = marked_more c.xb.inside.marks c.either-marks.result _ (λ b e. (c.either-marks.ensures b e).0) (marked_by_slice _ _ _ c.as_slice-x.ensures.value c.xb.invariant.marked);
      of_z = marked_more c.zb.inside.marks c.either-marks.result _ (λ b e. (c.either-marks.ensures b e).1) (marked_by_slice _ _ _ c.as_slice-z.ensures.value c.zb.invariant.marked);
    }

pub invariant_of-xa : goal.invariant_of-xa
invariant_of-xa g c =
    noted_keeps c.xa.inside.places c.xa.inside.marks c.xa.inside.words.items c.args.xa.now c.xa.invariant c.xa.view_is c.xb.inside.places c.xb.inside.marks c.xb.inside.words.items c.args.xb.now c.xb.invariant c.xb.view_is (sym c.requires.xb)
    c.as_mut_slice.result.now c.as_slice-x.result.now c.multiply_words-power.new.xa _ c.as_mut_slice.ensures.value c.as_slice-x.ensures.value c.as_mut_slice.ensures.len c.multiply_words-power.auto.xa c.multiply_words-power.ensures.product.x
    c.multiply_words-power.result.1 c.marks_of_sum-xa-inside.result (λ k h e. (c.multiply_words-power.ensures.blank k h e).1) c.marks_of_sum-xa-inside.ensures

pub invariant_of-za : goal.invariant_of-za
invariant_of-za g c =
    noted_keeps c.za.inside.places c.za.inside.marks c.za.inside.words.items c.args.za.now c.za.invariant c.za.view_is c.zb.inside.places c.zb.inside.marks c.zb.inside.words.items c.args.zb.now c.zb.invariant c.zb.view_is (c.requires.za ∙ sym c.requires.zb)
    c.as_mut_slice-2.result.now c.as_slice-z.result.now c.multiply_words-power.new.za _ c.as_mut_slice-2.ensures.value c.as_slice-z.ensures.value c.as_mut_slice-2.ensures.len c.multiply_words-power.auto.za c.multiply_words-power.ensures.product.z
    c.multiply_words-power.result.1 c.marks_of_sum-za-inside.result (λ k h e. (c.multiply_words-power.ensures.blank k h e).2) c.marks_of_sum-za-inside.ensures

pub returns-clause-power : goal.returns-clause-power
returns-clause-power g c =
    let za : c.za.inside.places ≡ c.xa.inside.places = same_places _ _ c.za.inside.words.items c.xa.inside.words.items _ _ c.za.view_is c.xa.view_is c.requires.za in
    let xb : c.xb.inside.places ≡ c.xa.inside.places = same_places _ _ c.xb.inside.words.items c.xa.inside.words.items _ _ c.xb.view_is c.xa.view_is c.requires.xb in
    let zb : c.zb.inside.places ≡ c.xa.inside.places = same_places _ _ c.zb.inside.words.items c.xa.inside.words.items _ _ c.zb.view_is c.xa.view_is c.requires.zb in
    c.multiply_words-power.ensures.product.power
    ∙ phase_of_rows c.xa.inside.places c.as_mut_slice.result.now c.as_mut_slice-2.result.now c.as_slice-x.result.now c.as_slice-z.result.now
    c.args.xa.now c.args.za.now c.args.xb.now c.args.zb.now
    (held_by_slice _ _ _ _ refl c.as_mut_slice.ensures.value c.xa.invariant.held)
    (held_by_slice _ _ _ _ (sym za) c.as_mut_slice-2.ensures.value c.za.invariant.held)
    (held_by_slice _ _ _ _ (sym xb) c.as_slice-x.ensures.value c.xb.invariant.held)
    (held_by_slice _ _ _ _ (sym zb) c.as_slice-z.ensures.value c.zb.invariant.held)
    (seen_by_slice _ _ _ _ _ refl c.as_mut_slice.ensures.value c.xa.view_is)
    (seen_by_slice _ _ _ _ _ (sym za) c.as_mut_slice-2.ensures.value c.za.view_is)
    (seen_by_slice _ _ _ _ _ (sym xb) c.as_slice-x.ensures.value c.xb.view_is)
    (seen_by_slice _ _ _ _ _ (sym zb) c.as_slice-z.ensures.value c.zb.view_is)

pub returns-clause-x : goal.returns-clause-x
returns-clause-x g c =
    sum_seen c.xa.inside.places c.xa.inside.marks c.xa.inside.words.items c.args.xa.now c.xa.invariant c.xa.view_is c.xb.inside.places c.xb.inside.marks c.xb.inside.words.items c.args.xb.now c.xb.invariant c.xb.view_is (sym c.requires.xb)
    c.as_mut_slice.result.now c.as_slice-x.result.now c.multiply_words-power.new.xa _ c.as_mut_slice.ensures.value c.as_slice-x.ensures.value c.as_mut_slice.ensures.len c.multiply_words-power.auto.xa c.multiply_words-power.ensures.product.x

pub returns-clause-z : goal.returns-clause-z
returns-clause-z g c =
    sum_seen c.za.inside.places c.za.inside.marks c.za.inside.words.items c.args.za.now c.za.invariant c.za.view_is c.zb.inside.places c.zb.inside.marks c.zb.inside.words.items c.args.zb.now c.zb.invariant c.zb.view_is (c.requires.za ∙ sym c.requires.zb)
    c.as_mut_slice-2.result.now c.as_slice-z.result.now c.multiply_words-power.new.za _ c.as_mut_slice-2.ensures.value c.as_slice-z.ensures.value c.as_mut_slice-2.ensures.len c.multiply_words-power.auto.za c.multiply_words-power.ensures.product.z

pub returns-clause-x_len : goal.returns-clause-x_len
returns-clause-x_len g c =
    sum_long c.xa.inside.places c.xa.inside.marks c.xa.inside.words.items c.args.xa.now c.xa.invariant c.xa.view_is c.xb.inside.places c.xb.inside.marks c.xb.inside.words.items c.args.xb.now c.xb.invariant c.xb.view_is (sym c.requires.xb)
    c.as_mut_slice.result.now c.as_slice-x.result.now c.multiply_words-power.new.xa _ c.as_mut_slice.ensures.value c.as_slice-x.ensures.value c.as_mut_slice.ensures.len c.multiply_words-power.auto.xa c.multiply_words-power.ensures.product.x

pub returns-clause-z_len : goal.returns-clause-z_len
returns-clause-z_len g c =
    sum_long c.za.inside.places c.za.inside.marks c.za.inside.words.items c.args.za.now c.za.invariant c.za.view_is c.zb.inside.places c.zb.inside.marks c.zb.inside.words.items c.args.zb.now c.zb.invariant c.zb.view_is (c.requires.za ∙ sym c.requires.zb)
    c.as_mut_slice-2.result.now c.as_slice-z.result.now c.multiply_words-power.new.za _ c.as_mut_slice-2.ensures.value c.as_slice-z.ensures.value c.as_mut_slice-2.ensures.len c.multiply_words-power.auto.za c.multiply_words-power.ensures.product.z
