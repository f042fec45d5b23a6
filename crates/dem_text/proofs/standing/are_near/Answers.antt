use Rattle.std.proofs.Common.{◌≡◌, ◌∙◌, ◌||◌, ◌+ℤ◌, Bool, drop, ℤ, List, [], ◌∷◌, pos, not, to_z, of_z, true, false, ap, sym, rules, arith, nat_lt}
use Rattle.std.specs.List.{list_any}
use Rattle.std.specs.Prelude.{nat_abs}
use Rattle.std.proofs.lemmas.Bool.{lt-ltb, le-ltb}
use Rattle.std.proofs.lemmas.Int.{ints}
use Rattle.std.proofs.lemmas.List.{drop_all}
use Rattle.dem_text.specs.Models.{is_coordinate_beyond}
use Rattle.dem_text.specs.private.Offsets.{number_at}
use Rattle.stim_parser.specs.Offsets.{moved}
use Rattle.dem_text.proofs.ShiftLemmas.{moved-next, moved-past, room-at, small-at}
use Rattle.dem_text.proofs.standing.are_near.Goals as goal

pub sum_at-requires : goal.sum_at-requires
sum_at-requires c =
    record { room = room-at c.args.offset.now c.loop-place.place c.requires.room; small = small-at c.args.stated.now c.loop-place.place c.requires.small }

-- the first of the coordinates that are left is beyond its limit, or not
first : (xs ys : List ℤ) (x : ℤ) (b : Bool) → xs ≡ x ∷ ys → is_coordinate_beyond x ≡ b → list_any is_coordinate_beyond xs ≡ (b || list_any is_coordinate_beyond ys)
first xs ys x b e f = ap (list_any is_coordinate_beyond) e ∙ ap (λ c. c || list_any is_coordinate_beyond ys) f

pub returns-then-unsigned_abs : goal.returns-then-unsigned_abs
returns-then-unsigned_abs c =
    let raw : to_z mir.Syntax.w128 (of_z mir.Syntax.w128 c.sum_at.result) ≡ c.sum_at.result = search (arith, rules, ints) in
    let sum = number_at c.args.offset.now c.loop-place.place +ℤ number_at c.args.stated.now c.loop-place.place in
    let big : nat_lt 999_999_999_999_999_999 (nat_abs sum) ≡ true = lt-ltb 999_999_999_999_999_999 (nat_abs sum) (omega (arith, c.if-unsigned_abs.true, c.unsigned_abs.ensures.value ∙ ap nat_abs (raw ∙ c.sum_at.ensures))) in
    sym (ap not (sym c.loop-place.invariant ∙ first _ _ _ true (moved-next c.args.offset.now c.args.stated.now c.loop-place.place (pos 0) c.loop-place-test.true) big))

pub loop-place-preserved : goal.loop-place-preserved
loop-place-preserved c =
    let raw : to_z mir.Syntax.w128 (of_z mir.Syntax.w128 c.sum_at.result) ≡ c.sum_at.result = search (arith, rules, ints) in
    let sum = number_at c.args.offset.now c.loop-place.place +ℤ number_at c.args.stated.now c.loop-place.place in
    let small : nat_lt 999_999_999_999_999_999 (nat_abs sum) ≡ false = le-ltb 999_999_999_999_999_999 (nat_abs sum) (omega (arith, c.if-unsigned_abs.false, c.unsigned_abs.ensures.value ∙ ap nat_abs (raw ∙ c.sum_at.ensures))) in
    sym (first _ _ _ false (moved-next c.args.offset.now c.args.stated.now c.loop-place.place (pos 0) c.loop-place-test.true) small) ∙ c.loop-place.invariant

pub returns : goal.returns
returns c =
    let place = c.loop-place.place in
    let none : moved (drop place c.args.offset.now) (drop place c.args.stated.now) ≡ [] =
    ap (moved (drop place c.args.offset.now)) (drop_all place c.args.stated.now c.loop-place-test.false) ∙ moved-past (drop place c.args.offset.now) in
    sym (ap not (sym c.loop-place.invariant ∙ ap (list_any is_coordinate_beyond) none))
