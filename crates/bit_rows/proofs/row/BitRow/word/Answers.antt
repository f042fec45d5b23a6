use Rattle.std.proofs.Common.{◌≡◌, ◌*◌, ◌+◌, arith, ap, length, refl, sym, ◌∙◌}
use Rattle.bit_rows.proofs.Places.{row_long, bit_in_word, held_by_slice, seen_by_slice}
use Rattle.bit_rows.proofs.NextPlaces.{bit_seen}
use Rattle.bit_rows.proofs.LaneLaws.{lane_is_bit}
use Rattle.bit_rows.specs.private.Words.{bit_in}
use Rattle.bit_rows.proofs.row.BitRow.word.Goals as goal

pub offset_bounds-as_slice-k : goal.offset_bounds-as_slice-k
offset_bounds-as_slice-k g c =
    let long = row_long c.self.inside.places c.self.inside.words.items c.args.self.now c.self.view_is in
    omega (arith, long, c.self.invariant.held.fits)

pub bounds-as_slice-k : goal.bounds-as_slice-k
bounds-as_slice-k g c =
    let long = row_long c.self.inside.places c.self.inside.words.items c.args.self.now c.self.view_is in
    omega (arith, long, c.self.invariant.held.count, ap length c.as_slice.ensures.value)

pub returns : goal.returns
returns g c = λ j below.
    let words = c.as_slice.result.now in
    let here : c.args.k * 64 + j ≡ 64 * c.args.k + j = omega arith in
    lane_is_bit j _
    ∙ sym (bit_in_word words c.args.k j below)
    ∙ ap (bit_in words) here
    ∙ sym (bit_seen c.self.inside.places words c.args.self.now (held_by_slice _ _ _ _ refl c.as_slice.ensures.value c.self.invariant.held)
    (seen_by_slice _ _ _ _ _ refl c.as_slice.ensures.value c.self.view_is) (64 * c.args.k + j))
