use Rattle.std.proofs.Common.{◌≡◌, ◌+ℤ◌, ℤ, List, set, to_z, of_z, ap, ap₂, refl, sym, ◌∙◌, rules, arith}
use Rattle.std.specs.Prelude.{nat_abs}
use Rattle.std.proofs.lemmas.Int.{ints}
use Rattle.std.proofs.lemmas.List.{take_all, length-set}
use Rattle.stim_parser.specs.Offsets.{shifted}
use Rattle.dem_text.specs.private.Offsets.{number_at}
use Rattle.dem_text.proofs.ShiftLemmas.{room-at, shifted-next, shifted-none, small-at, still-at}
use Rattle.dem_text.proofs.standing.add_all.Goals as goal

pub loop-place-init : goal.loop-place-init
loop-place-init c = record { added = sym (shifted-none c.args.offset.now); long = refl }

pub sum_inside-requires : goal.sum_inside-requires
sum_inside-requires c =
    let place = c.loop-place.place in
    let still = ap (λ xs. number_at xs place) c.loop-place.invariant.added ∙ still-at c.args.offset.now c.args.stated.now place in
    record {
      offset = omega (arith, c.loop-place-test.true, c.loop-place.invariant.long, c.requires.few);
      stated = c.loop-place-test.true;
      room = let room = room-at c.args.offset.now place c.requires.room in omega (arith, room, ap nat_abs still);
      small = small-at c.args.stated.now place c.requires.small;
    }

pub loop-place-preserved : goal.loop-place-preserved
loop-place-preserved c =
    let offset = c.args.offset.now in
    let stated = c.args.stated.now in
    let place = c.loop-place.place in
    let still = ap (λ xs. number_at xs place) c.loop-place.invariant.added ∙ still-at offset stated place in
    let raw : to_z mir.Syntax.w128 (of_z mir.Syntax.w128 c.sum_inside.result) ≡ c.sum_inside.result = search (arith, rules, ints) in
    record {
      added =
          ap₂ (λ (xs : List ℤ) (x : ℤ). set xs place x) c.loop-place.invariant.added (raw ∙ c.sum_inside.ensures ∙ ap (λ x. x +ℤ number_at stated place) still)
          ∙ shifted-next offset stated place c.loop-place-test.true c.requires.few;
      long = length-set c.loop-place.offset place _ ∙ c.loop-place.invariant.long;
    }

pub returns-clause-added : goal.returns-clause-added
returns-clause-added c =
    c.loop-place.invariant.added ∙ ap (shifted c.args.offset.now) (take_all c.loop-place.place c.args.stated.now c.loop-place-test.false)
