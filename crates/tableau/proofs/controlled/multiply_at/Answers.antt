-- The pairs are read and written through the two parts into which the rows are split.
use Rattle.std.proofs.lemmas.Nat.{mul-le}
use Rattle.std.proofs.Common.{ℕ, ◌*◌, ◌^◌, ◌<◌, length, ◌≤◌, ◌++◌, Fits, w64, set, slice_index_or, ap₂, sym, ◌∙◌, arith, rules}
use Rattle.tableau.proofs.ControlledRows.{AreRead, back_inside, comes_after, front_inside, parts_set, set_swapped, read_ahead, read_behind, first_there, second_there, commute_there, made_there}
use Rattle.tableau.proofs.controlled.multiply_at.Given.{Over}
use Rattle.tableau.proofs.controlled.multiply_at.Goals as goal
use Rattle.tableau.proofs.controlled.multiply_at.Goals.{After-index-back-0, After-index-front-b}

ahead : (g : Over) (c : After-index-back-0 g) → AreRead c.args.rows.now c.args.a c.args.b (slice_index_or c.split_at_mut-front.result.0.now c.args.a c.index-front-a.result) (slice_index_or c.split_at_mut-front.result.1.now 0 c.index-back-0.result)
ahead g c = read_ahead _ _ _ _ _ _ _ c.split_at_mut-front.ensures.front c.split_at_mut-front.ensures.back c.if-a-b.true c.requires.rows.second_inside

behind : (g : Over) (c : After-index-front-b g) → AreRead c.args.rows.now c.args.a c.args.b (slice_index_or c.split_at_mut-front-else-a-b.result.1.now 0 c.index-back-0-else-a-b.result) (slice_index_or c.split_at_mut-front-else-a-b.result.0.now c.args.b c.index-front-b.result)
behind g c =
    read_behind _ _ _ _ _ _ _ c.split_at_mut-front-else-a-b.ensures.front c.split_at_mut-front-else-a-b.ensures.back (comes_after c.args.a c.args.b c.if-a-b.false c.requires.rows.differ) c.requires.rows.first_inside

split_inside : (k n : ℕ) → k < n → k ≤ n
split_inside k n h = omega (arith, h)

-- the first pair lies at 0, whatever a pair's size is
fits_none : (size : ℕ) → Fits w64 (0 * size)
fits_none size = search rules

fits_place : (place count size : ℕ) → place < count → count * size < 2 ^ 63 → Fits w64 (place * size)
fits_place place count size below small =
    record { fits = omega (arith, mul-le place size count size (omega arith) (omega arith)) }

pub offset_bounds-front-a : goal.offset_bounds-front-a
offset_bounds-front-a g c =
    fits_place c.args.a (length c.split_at_mut-front.result.0.now) _ (front_inside _ _ _ _ c.split_at_mut-front.ensures.front c.if-a-b.true c.requires.rows.second_inside) (search rules)

pub offset_bounds-front-b : goal.offset_bounds-front-b
offset_bounds-front-b g c =
    fits_place c.args.b (length c.split_at_mut-front-else-a-b.result.0.now) _ (front_inside _ _ _ _ c.split_at_mut-front-else-a-b.ensures.front (comes_after c.args.a c.args.b c.if-a-b.false c.requires.rows.differ) c.requires.rows.first_inside) (search rules)

pub offset_bounds-0 : goal.offset_bounds-0
offset_bounds-0 g c = fits_none _

pub offset_bounds-0-else-a-b : goal.offset_bounds-0-else-a-b
offset_bounds-0-else-a-b g c = fits_none _

pub split_at_mut-front-requires : goal.split_at_mut-front-requires
split_at_mut-front-requires g c = split_inside _ _ c.requires.rows.second_inside

pub split_at_mut-front-requires-else-a-b : goal.split_at_mut-front-requires-else-a-b
split_at_mut-front-requires-else-a-b g c = split_inside _ _ c.requires.rows.first_inside

pub bounds-front-a : goal.bounds-front-a
bounds-front-a g c = front_inside _ _ _ _ c.split_at_mut-front.ensures.front c.if-a-b.true c.requires.rows.second_inside

pub bounds-back-0 : goal.bounds-back-0
bounds-back-0 g c = back_inside _ _ _ c.split_at_mut-front.ensures.back c.requires.rows.second_inside

pub multiply_both-requires-clause-own : goal.multiply_both-requires-clause-own
multiply_both-requires-clause-own g c = c.requires.own

pub multiply_both-requires-clause-first : goal.multiply_both-requires-clause-first
multiply_both-requires-clause-first g c =
    first_there _ c.requires.rows.tableau _ _ c.requires.rows.first_inside c.requires.rows.second_inside c.requires.rows.differ _ _ (ahead g (goal.at.multiply_both-requires-clause-first g c).After-index-back-0)

pub multiply_both-requires-clause-second : goal.multiply_both-requires-clause-second
multiply_both-requires-clause-second g c =
    second_there _ c.requires.rows.tableau _ _ c.requires.rows.first_inside c.requires.rows.second_inside c.requires.rows.differ _ _ (ahead g (goal.at.multiply_both-requires-clause-second g c).After-index-back-0)

pub multiply_both-requires-clause-commuting : goal.multiply_both-requires-clause-commuting
multiply_both-requires-clause-commuting g c =
    commute_there _ c.requires.rows.tableau _ _ c.requires.rows.first_inside c.requires.rows.second_inside c.requires.rows.differ _ _ (ahead g (goal.at.multiply_both-requires-clause-commuting g c).After-index-back-0)

pub returns-then-a-b : goal.returns-then-a-b
returns-then-a-b g c =
    let rows = c.args.rows.now in
    let first = c.multiply_both.new.first in
    let second = c.multiply_both.new.second in
    ap₂ (λ front back. set front c.args.a first ++ set back 0 second) c.split_at_mut-front.ensures.front c.split_at_mut-front.ensures.back
    ∙ (parts_set rows c.args.a c.args.b first second c.if-a-b.true c.requires.rows.second_inside
    ∙ made_there rows c.requires.rows.tableau c.args.a c.args.b c.requires.rows.first_inside c.requires.rows.second_inside c.requires.rows.differ _ _ (ahead g (goal.at.returns-then-a-b g c).After-index-back-0)
    c.args.own c.args.other first second c.multiply_both.ensures.first c.multiply_both.ensures.second)

pub bounds-back-0-else-a-b : goal.bounds-back-0-else-a-b
bounds-back-0-else-a-b g c = back_inside _ _ _ c.split_at_mut-front-else-a-b.ensures.back c.requires.rows.first_inside

pub bounds-front-b : goal.bounds-front-b
bounds-front-b g c =
    front_inside _ _ _ _ c.split_at_mut-front-else-a-b.ensures.front (comes_after c.args.a c.args.b c.if-a-b.false c.requires.rows.differ) c.requires.rows.first_inside

pub multiply_both-requires-else-a-b-clause-own : goal.multiply_both-requires-else-a-b-clause-own
multiply_both-requires-else-a-b-clause-own g c = c.requires.own

pub multiply_both-requires-else-a-b-clause-first : goal.multiply_both-requires-else-a-b-clause-first
multiply_both-requires-else-a-b-clause-first g c =
    first_there _ c.requires.rows.tableau _ _ c.requires.rows.first_inside c.requires.rows.second_inside c.requires.rows.differ _ _ (behind g (goal.at.multiply_both-requires-else-a-b-clause-first g c).After-index-front-b)

pub multiply_both-requires-else-a-b-clause-second : goal.multiply_both-requires-else-a-b-clause-second
multiply_both-requires-else-a-b-clause-second g c =
    second_there _ c.requires.rows.tableau _ _ c.requires.rows.first_inside c.requires.rows.second_inside c.requires.rows.differ _ _ (behind g (goal.at.multiply_both-requires-else-a-b-clause-second g c).After-index-front-b)

pub multiply_both-requires-else-a-b-clause-commuting : goal.multiply_both-requires-else-a-b-clause-commuting
multiply_both-requires-else-a-b-clause-commuting g c =
    commute_there _ c.requires.rows.tableau _ _ c.requires.rows.first_inside c.requires.rows.second_inside c.requires.rows.differ _ _ (behind g (goal.at.multiply_both-requires-else-a-b-clause-commuting g c).After-index-front-b)

pub returns-else-a-b : goal.returns-else-a-b
returns-else-a-b g c =
    let rows = c.args.rows.now in
    let first = c.multiply_both-else-a-b.new.first in
    let second = c.multiply_both-else-a-b.new.second in
    ap₂ (λ front back. set front c.args.b second ++ set back 0 first) c.split_at_mut-front-else-a-b.ensures.front c.split_at_mut-front-else-a-b.ensures.back
    ∙ (parts_set rows c.args.b c.args.a second first (comes_after c.args.a c.args.b c.if-a-b.false c.requires.rows.differ) c.requires.rows.first_inside
    ∙ (set_swapped rows c.args.b c.args.a second first (λ e. c.requires.rows.differ (sym e))
    ∙ made_there rows c.requires.rows.tableau c.args.a c.args.b c.requires.rows.first_inside c.requires.rows.second_inside c.requires.rows.differ _ _ (behind g (goal.at.returns-else-a-b g c).After-index-front-b)
    c.args.own c.args.other first second c.multiply_both-else-a-b.ensures.first c.multiply_both-else-a-b.ensures.second))
