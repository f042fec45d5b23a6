use Rattle.std.proofs.Common.{arith, ap, refl, length}
use Rattle.bit_rows.proofs.Marked.{marked_by_slice, marked_more}
use Rattle.bit_rows.proofs.Places.{words_few, same_places, held_by_slice, seen_by_slice}
use Rattle.bit_rows.proofs.NextPlaces.{none_seen, one_seen, before_seen, within_seen}
use Rattle.bit_rows.proofs.row.BitRow.first_one_from.Goals as goal

pub first_place_from-requires-clause-lengths : goal.first_place_from-requires-clause-lengths
first_place_from-requires-clause-lengths g c =
    let same = same_places c.first.inside.places c.second.inside.places c.first.inside.words.items c.second.inside.words.items c.args.first.now c.args.second.now c.first.view_is c.second.view_is c.requires in
    omega (arith, ap length c.as_slice.ensures.value, ap length c.as_slice-2.ensures.value, c.first.invariant.held.count, c.second.invariant.held.count, same)

pub first_place_from-requires-clause-few : goal.first_place_from-requires-clause-few
first_place_from-requires-clause-few g c =
    omega (arith, words_few c.first.inside.places c.first.inside.words.items c.first.invariant.held, ap length c.as_slice.ensures.value)

pub first_place_from-requires-clause-marks : goal.first_place_from-requires-clause-marks
first_place_from-requires-clause-marks g c =
    record {
      of_x = marked_more c.first.inside.marks c.either-marks.result _ (λ b e. (c.either-marks.ensures b e).0) (marked_by_slice _ _ _ c.as_slice.ensures.value c.first.invariant.marked);
      of_z = marked_more c.second.inside.marks c.either-marks.result _ (λ b e. (c.either-marks.ensures b e).1) (marked_by_slice _ _ _ c.as_slice-2.ensures.value c.second.invariant.marked);
    }

pub returns-clause-none : goal.returns-clause-none
returns-clause-none g c =
    none_seen c.first.inside.places c.second.inside.places c.as_slice.result.now c.as_slice-2.result.now c.args.first.now c.args.second.now
    (held_by_slice _ _ _ _ refl c.as_slice.ensures.value c.first.invariant.held) (held_by_slice _ _ _ _ refl c.as_slice-2.ensures.value c.second.invariant.held)
    (seen_by_slice _ _ _ _ _ refl c.as_slice.ensures.value c.first.view_is) (seen_by_slice _ _ _ _ _ refl c.as_slice-2.ensures.value c.second.view_is)
    c.args.start c.first_place_from.result c.first_place_from.ensures.none

pub returns-clause-within : goal.returns-clause-within
returns-clause-within g c =
    within_seen c.first.inside.places c.second.inside.places c.as_slice.result.now c.as_slice-2.result.now c.args.first.now c.args.second.now
    (held_by_slice _ _ _ _ refl c.as_slice.ensures.value c.first.invariant.held) (held_by_slice _ _ _ _ refl c.as_slice-2.ensures.value c.second.invariant.held)
    (seen_by_slice _ _ _ _ _ refl c.as_slice.ensures.value c.first.view_is) (seen_by_slice _ _ _ _ _ refl c.as_slice-2.ensures.value c.second.view_is)
    c.args.start c.first_place_from.result c.requires c.first_place_from.ensures.after c.first_place_from.ensures.is_set

pub returns-clause-is_set : goal.returns-clause-is_set
returns-clause-is_set g c =
    one_seen c.first.inside.places c.second.inside.places c.as_slice.result.now c.as_slice-2.result.now c.args.first.now c.args.second.now
    (held_by_slice _ _ _ _ refl c.as_slice.ensures.value c.first.invariant.held) (held_by_slice _ _ _ _ refl c.as_slice-2.ensures.value c.second.invariant.held)
    (seen_by_slice _ _ _ _ _ refl c.as_slice.ensures.value c.first.view_is) (seen_by_slice _ _ _ _ _ refl c.as_slice-2.ensures.value c.second.view_is)
    c.first_place_from.result c.first_place_from.ensures.is_set

pub returns-clause-before : goal.returns-clause-before
returns-clause-before g c =
    before_seen c.first.inside.places c.second.inside.places c.as_slice.result.now c.as_slice-2.result.now c.args.first.now c.args.second.now
    (held_by_slice _ _ _ _ refl c.as_slice.ensures.value c.first.invariant.held) (held_by_slice _ _ _ _ refl c.as_slice-2.ensures.value c.second.invariant.held)
    (seen_by_slice _ _ _ _ _ refl c.as_slice.ensures.value c.first.view_is) (seen_by_slice _ _ _ _ _ refl c.as_slice-2.ensures.value c.second.view_is)
    c.args.start c.first_place_from.result c.first_place_from.ensures.before
