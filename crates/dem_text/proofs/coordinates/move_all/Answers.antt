use Rattle.std.proofs.Common.{◌≡◌, ◌+◌, ◌<◌, ◌≤◌, ◌∙◌, ◌++◌, ◌∷◌, [], ◌+ℤ◌, ℕ, ℤ, List, ap, append_assoc, arith, drop, false, length, of_z, pos, rules, sym, to_z, w64}
use Rattle.std.specs.List.{list_any}
use Rattle.std.specs.Prelude.{nat_abs}
use Rattle.std.proofs.lemmas.Bool.{ltb-false}
use Rattle.std.proofs.lemmas.Int.{ints}
use Rattle.stim_parser.specs.Offsets.{moved}
use Rattle.stim_parser.specs.Numbers.{greatest_number}
use Rattle.dem_text.specs.Models.{is_coordinate_beyond}
use Rattle.dem_text.specs.private.Offsets.{number_at}
use Rattle.dem_text.proofs.ShiftLemmas.{left, moved-next, right, room-at}
use Rattle.dem_text.proofs.coordinates.move_all.Goals as goal

-- the first coordinate that is left
sum-small : (offset stated : List ℤ) (place : ℕ) → place < length stated → list_any is_coordinate_beyond (moved (drop place offset) (drop place stated)) ≡ false
    → nat_abs (number_at offset place +ℤ number_at stated place) ≤ greatest_number
sum-small offset stated place below near =
    ltb-false greatest_number _ (left (is_coordinate_beyond (number_at offset place +ℤ number_at stated place)) _ (sym (ap (list_any is_coordinate_beyond) (moved-next offset stated place (pos 0) below)) ∙ near))

pub sum_at-requires-clause-room : goal.sum_at-requires-clause-room
sum_at-requires-clause-room g c = room-at c.args.offset.now c.loop-place.place c.requires.room

pub overflow_cast-sum_at : goal.overflow_cast-sum_at
overflow_cast-sum_at g c =
    let small = sum-small c.args.offset.now c.args.stated.now c.loop-place.place c.loop-place-test.true c.loop-place.invariant.near in
    let same = ap nat_abs c.sum_at.ensures in
    search (arith, rules, ints)

pub loop-place-preserved : goal.loop-place-preserved
loop-place-preserved g c =
    let place = c.loop-place.place in
    let offset = c.args.offset.now in
    let stated = c.args.stated.now in
    let found = c.loop-place.found.items in
    let rest = moved (drop (place + 1) offset) (drop (place + 1) stated) in
    let sum = number_at offset place +ℤ number_at stated place in
    let next = moved-next offset stated place (pos 0) c.loop-place-test.true in
    let small = sum-small offset stated place c.loop-place-test.true c.loop-place.invariant.near in
    let raw : to_z w64 (of_z w64 (to_z mir.Syntax.w128 (of_z mir.Syntax.w128 c.sum_at.result))) ≡ c.sum_at.result = search (arith, rules, ints) in
    record {
      front =
          ap (λ ns. ns ++ rest) (c.in_ok-push.ensures.items ∙ ap (λ (n : ℤ). found ++ n ∷ []) (raw ∙ c.sum_at.ensures))
          ∙ append_assoc found (sum ∷ []) rest
          ∙ ap (λ ns. found ++ ns) (sym next)
          ∙ c.loop-place.invariant.front;
      near = right (is_coordinate_beyond sum) _ (sym (ap (list_any is_coordinate_beyond) next) ∙ c.loop-place.invariant.near);
    }
