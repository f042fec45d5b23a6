use Rattle.std.proofs.Common.{◌≡◌, ◌∙◌, ap, sym, length, arith, refl}
use Rattle.bit_rows.proofs.Places.{same_places, held_by_slice, seen_by_slice}
use Rattle.bit_rows.proofs.RowTotals.{phase_of_rows}
use Rattle.bit_rows.proofs.row.BitRow.phase_step.Goals as goal

pub power_of_words-requires-clause-za : goal.power_of_words-requires-clause-za
power_of_words-requires-clause-za g c =
    let za : c.za.inside.places ≡ c.xa.inside.places = same_places _ _ c.za.inside.words.items c.xa.inside.words.items _ _ c.za.view_is c.xa.view_is c.requires.za in
    omega (arith, za, c.xa.invariant.held.count, c.za.invariant.held.count, ap length c.as_slice.ensures.value, ap length c.as_slice-2.ensures.value)

pub power_of_words-requires-clause-xb : goal.power_of_words-requires-clause-xb
power_of_words-requires-clause-xb g c =
    let xb : c.xb.inside.places ≡ c.xa.inside.places = same_places _ _ c.xb.inside.words.items c.xa.inside.words.items _ _ c.xb.view_is c.xa.view_is c.requires.xb in
    omega (arith, xb, c.xa.invariant.held.count, c.xb.invariant.held.count, ap length c.as_slice.ensures.value, ap length c.as_slice-3.ensures.value)

pub power_of_words-requires-clause-zb : goal.power_of_words-requires-clause-zb
power_of_words-requires-clause-zb g c =
    let zb : c.zb.inside.places ≡ c.xa.inside.places = same_places _ _ c.zb.inside.words.items c.xa.inside.words.items _ _ c.zb.view_is c.xa.view_is c.requires.zb in
    omega (arith, zb, c.xa.invariant.held.count, c.zb.invariant.held.count, ap length c.as_slice.ensures.value, ap length c.as_slice-4.ensures.value)

pub returns : goal.returns
returns g c =
    let za : c.za.inside.places ≡ c.xa.inside.places = same_places _ _ c.za.inside.words.items c.xa.inside.words.items _ _ c.za.view_is c.xa.view_is c.requires.za in
    let xb : c.xb.inside.places ≡ c.xa.inside.places = same_places _ _ c.xb.inside.words.items c.xa.inside.words.items _ _ c.xb.view_is c.xa.view_is c.requires.xb in
    let zb : c.zb.inside.places ≡ c.xa.inside.places = same_places _ _ c.zb.inside.words.items c.xa.inside.words.items _ _ c.zb.view_is c.xa.view_is c.requires.zb in
    c.power_of_words.ensures
    ∙ phase_of_rows c.xa.inside.places c.as_slice.result.now c.as_slice-2.result.now c.as_slice-3.result.now c.as_slice-4.result.now
    c.args.xa.now c.args.za.now c.args.xb.now c.args.zb.now
    (held_by_slice _ _ _ _ refl c.as_slice.ensures.value c.xa.invariant.held)
    (held_by_slice _ _ _ _ (sym za) c.as_slice-2.ensures.value c.za.invariant.held)
    (held_by_slice _ _ _ _ (sym xb) c.as_slice-3.ensures.value c.xb.invariant.held)
    (held_by_slice _ _ _ _ (sym zb) c.as_slice-4.ensures.value c.zb.invariant.held)
    (seen_by_slice _ _ _ _ _ refl c.as_slice.ensures.value c.xa.view_is)
    (seen_by_slice _ _ _ _ _ (sym za) c.as_slice-2.ensures.value c.za.view_is)
    (seen_by_slice _ _ _ _ _ (sym xb) c.as_slice-3.ensures.value c.xb.view_is)
    (seen_by_slice _ _ _ _ _ (sym zb) c.as_slice-4.ensures.value c.zb.view_is)
