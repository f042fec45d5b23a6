use Rattle.std.proofs.Common.{◌≡◌, ◌∙◌, ap, length, arith, refl}
use Rattle.bit_rows.proofs.Places.{same_places, held_by_slice, seen_by_slice}
use Rattle.bit_rows.proofs.RowTotals.{parity_of_rows}
use Rattle.bit_rows.proofs.row.BitRow.and_parity.Goals as goal

pub has_odd_common_ones-requires : goal.has_odd_common_ones-requires
has_odd_common_ones-requires g c =
    let same : c.self.inside.places ≡ c.other.inside.places = same_places _ _ c.self.inside.words.items c.other.inside.words.items _ _ c.self.view_is c.other.view_is c.requires in
    omega (arith, same, c.self.invariant.held.count, c.other.invariant.held.count, ap length c.as_slice.ensures.value, ap length c.as_slice-2.ensures.value)

pub returns : goal.returns
returns g c =
    let same : c.self.inside.places ≡ c.other.inside.places = same_places _ _ c.self.inside.words.items c.other.inside.words.items _ _ c.self.view_is c.other.view_is c.requires in
    c.has_odd_common_ones.ensures
    ∙ parity_of_rows c.self.inside.places c.as_slice.result.now c.as_slice-2.result.now c.args.self.now c.args.other.now
    (held_by_slice _ _ _ _ refl c.as_slice.ensures.value c.self.invariant.held)
    (seen_by_slice _ _ _ _ _ refl c.as_slice.ensures.value c.self.view_is)
    (seen_by_slice _ _ _ _ _ same c.as_slice-2.ensures.value c.other.view_is)
