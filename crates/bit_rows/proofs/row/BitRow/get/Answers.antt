use Rattle.std.proofs.Common.{◌<◌, length, arith, ap, ◌∙◌, sym, refl, get_or, false}
use Rattle.bit_rows.proofs.Places.{row_long, word_within, seen_by_slice, get_or-row_of}
use Rattle.bit_rows.proofs.row.BitRow.get.Goals as goal

pub bit_at_place-requires : goal.bit_at_place-requires
bit_at_place-requires g c =
    let long = row_long c.self.inside.places c.self.inside.words.items c.args.self.now c.self.view_is in
    let within : c.args.i < c.self.inside.places = omega (arith, long) in
    omega (arith, word_within c.self.inside.places c.self.inside.words.items c.args.i c.self.invariant.held within, ap length c.as_slice.ensures.value)

pub returns-then-unmarked : goal.returns-then-unmarked
returns-then-unmarked g c =
    let long = row_long c.self.inside.places c.self.inside.words.items c.args.self.now c.self.view_is in
    let within : c.args.i < c.self.inside.places = omega (arith, long) in
    let none = c.is_unmarked-unmarked.ensures c.if-unmarked.true in
    sym (c.self.invariant.marked.blank c.args.i none.0 none.1)
    ∙ sym (get_or-row_of c.self.inside.places c.self.inside.words.items c.args.i within)
    ∙ ap (λ row. get_or row c.args.i false) c.self.view_is

pub returns : goal.returns
returns g c =
    let long = row_long c.self.inside.places c.self.inside.words.items c.args.self.now c.self.view_is in
    let within : c.args.i < c.self.inside.places = omega (arith, long) in
    c.bit_at_place.ensures
    ∙ sym (get_or-row_of c.self.inside.places c.as_slice.result.now c.args.i within)
    ∙ ap (λ row. get_or row c.args.i false) (seen_by_slice _ _ _ _ _ refl c.as_slice.ensures.value c.self.view_is)
