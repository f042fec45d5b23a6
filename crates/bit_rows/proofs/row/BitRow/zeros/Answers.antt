use Rattle.std.proofs.Common.{◌≡◌, ◌∙◌, sym, ap, subst, arith}
use Rattle.bit_rows.specs.private.Marks.{KeepsRow}
use Rattle.bit_rows.specs.private.Words.{row_of, words_for}
use Rattle.bit_rows.proofs.Marked.{marked_zeros}
use Rattle.bit_rows.proofs.Places.{held_zeros, row_of_zero_words}
use Rattle.bit_rows.proofs.row.BitRow.zeros.Goals as goal

pub invariant_of-result : goal.invariant_of-result
invariant_of-result g c =
    let made = c.in_ok-from_elem.ensures.items_if_clones_equal (λ y h. h) in
    let count : c.div_ceil.result ≡ words_for c.args.n = omega (arith, c.div_ceil.ensures) in
    subst (KeepsRow c.args.n 0) (sym made) (record { held = held_zeros c.args.n c.div_ceil.result c.ranges.n.fits count; marked = marked_zeros 0 c.div_ceil.result })

pub returns : goal.returns
returns g c =
    let made = c.in_ok-from_elem.ensures.items_if_clones_equal (λ y h. h) in
    ap (row_of c.args.n) made ∙ row_of_zero_words c.args.n c.div_ceil.result
