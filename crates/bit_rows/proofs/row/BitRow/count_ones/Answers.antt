use Rattle.std.proofs.Common.{◌∙◌, refl}
use Rattle.bit_rows.proofs.Places.{held_by_slice, seen_by_slice}
use Rattle.bit_rows.proofs.RowTotals.{count_of_row, ones_fit}
use Rattle.bit_rows.proofs.row.BitRow.count_ones.Goals as goal

pub count_ones-requires : goal.count_ones-requires
count_ones-requires g c =
    ones_fit c.self.inside.places c.as_slice.result.now c.args.self.now (held_by_slice _ _ _ _ refl c.as_slice.ensures.value c.self.invariant.held)
    (seen_by_slice _ _ _ _ _ refl c.as_slice.ensures.value c.self.view_is)

pub returns : goal.returns
returns g c =
    c.count_ones.ensures
    ∙ count_of_row c.self.inside.places c.as_slice.result.now c.args.self.now (held_by_slice _ _ _ _ refl c.as_slice.ensures.value c.self.invariant.held)
    (seen_by_slice _ _ _ _ _ refl c.as_slice.ensures.value c.self.view_is)
