use Rattle.std.proofs.Common.{◌<◌, ◌≡◌, length, arith, ap, ◌∙◌, sym, refl, get_or, false, ℕ, List, Bool}
use Rattle.bit_rows.proofs.Places.{row_long, word_within, seen_by_slice, get_or-row_of}
use Rattle.bit_rows.specs.private.Words.{row_of, bit_in}
use Rattle.bit_rows.proofs.row.BitRow.get_both.Goals as goal

-- the bit of a row that a list of words holds
bit_held : (places : ℕ) (words : List ℕ) (row : List Bool) (i : ℕ) → row_of places words ≡ row → i < length row → bit_in words i ≡ get_or row i false
bit_held places words row i seen inside =
    let within : i < places = omega (arith, inside, row_long places words row seen) in
    sym (get_or-row_of places words i within) ∙ ap (λ r. get_or r i false) seen

pub returns-then-unmarked-clause-first : goal.returns-then-unmarked-clause-first
returns-then-unmarked-clause-first g c =
    let none = c.is_unmarked-unmarked.ensures c.if-unmarked.true in
    let both = c.either.ensures _ none.1 in
    sym (c.first.invariant.marked.blank c.args.i none.0 both.0)
    ∙ bit_held c.first.inside.places c.first.inside.words.items c.args.first.now c.args.i c.first.view_is c.requires.first

pub returns-then-unmarked-clause-second : goal.returns-then-unmarked-clause-second
returns-then-unmarked-clause-second g c =
    let none = c.is_unmarked-unmarked.ensures c.if-unmarked.true in
    let both = c.either.ensures _ none.1 in
    sym (c.second.invariant.marked.blank c.args.i none.0 both.1)
    ∙ bit_held c.second.inside.places c.second.inside.words.items c.args.second.now c.args.i c.second.view_is c.requires.second

pub bit_at_place-requires : goal.bit_at_place-requires
bit_at_place-requires g c =
    let long = row_long c.first.inside.places c.first.inside.words.items c.args.first.now c.first.view_is in
    let within : c.args.i < c.first.inside.places = omega (arith, c.requires.first, long) in
    omega (arith, c.requires.first, word_within c.first.inside.places c.first.inside.words.items c.args.i c.first.invariant.held within, ap length c.as_slice.ensures.value)

pub bit_at_place-requires-2 : goal.bit_at_place-requires-2
bit_at_place-requires-2 g c =
    let long = row_long c.second.inside.places c.second.inside.words.items c.args.second.now c.second.view_is in
    let within : c.args.i < c.second.inside.places = omega (arith, c.requires.second, long) in
    omega (arith, c.requires.second, word_within c.second.inside.places c.second.inside.words.items c.args.i c.second.invariant.held within, ap length c.as_slice-2.ensures.value)

pub returns-clause-first : goal.returns-clause-first
returns-clause-first g c =
    c.bit_at_place.ensures
    ∙ bit_held c.first.inside.places c.as_slice.result.now c.args.first.now c.args.i (seen_by_slice _ _ _ _ _ refl c.as_slice.ensures.value c.first.view_is) c.requires.first

pub returns-clause-second : goal.returns-clause-second
returns-clause-second g c =
    c.bit_at_place-2.ensures
    ∙ bit_held c.second.inside.places c.as_slice-2.result.now c.args.second.now c.args.i (seen_by_slice _ _ _ _ _ refl c.as_slice-2.ensures.value c.second.view_is) c.requires.second
