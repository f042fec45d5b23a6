-- The columns are split between the two places, whichever comes first; both columns change, and the others stay where they are.
use Rattle.std.proofs.Common.{◌<◌, length, sym, ◌∙◌, arith}
use Rattle.std.proofs.lemmas.List.{set_comm}
use Rattle.trackers.proofs.PairLemmas.{both_ok, fits_none, made, parts_of, split_inside}
use Rattle.trackers.proofs.pairs.multiply_pair.Goals as goal

pub offset_bounds-0 : goal.offset_bounds-0
offset_bounds-0 g c = fits_none _

pub offset_bounds-0-else-a-b : goal.offset_bounds-0-else-a-b
offset_bounds-0-else-a-b g c = fits_none _

pub split_at_mut-front-requires : goal.split_at_mut-front-requires
split_at_mut-front-requires g c = split_inside _ _ c.requires.places.second

pub split_at_mut-front-requires-else-a-b : goal.split_at_mut-front-requires-else-a-b
split_at_mut-front-requires-else-a-b g c = split_inside _ _ c.requires.places.first

pub bounds-front-a : goal.bounds-front-a
bounds-front-a g c =
    let parts = parts_of (length (g.S.TargetSet.bits c.args.spare.now)) c.args.a c.args.b c.args.columns.now _ _ c.split_at_mut-front.ensures.front c.split_at_mut-front.ensures.back c.if-a-b.true c.requires.places.second c.requires.long in
    parts.in_front

pub bounds-back-0 : goal.bounds-back-0
bounds-back-0 g c =
    let parts = parts_of (length (g.S.TargetSet.bits c.args.spare.now)) c.args.a c.args.b c.args.columns.now _ _ c.split_at_mut-front.ensures.front c.split_at_mut-front.ensures.back c.if-a-b.true c.requires.places.second c.requires.long in
    parts.in_back

pub multiply_both-requires-clause-same : goal.multiply_both-requires-clause-same
multiply_both-requires-clause-same g c =
    let parts = parts_of (length (g.S.TargetSet.bits c.args.spare.now)) c.args.a c.args.b c.args.columns.now _ _ c.split_at_mut-front.ensures.front c.split_at_mut-front.ensures.back c.if-a-b.true c.requires.places.second c.requires.long in
    parts.second_long c.index-back-0.result ∙ sym (parts.first_long c.index-front-a.result)

pub multiply_both-requires-clause-spare : goal.multiply_both-requires-clause-spare
multiply_both-requires-clause-spare g c =
    let parts = parts_of (length (g.S.TargetSet.bits c.args.spare.now)) c.args.a c.args.b c.args.columns.now _ _ c.split_at_mut-front.ensures.front c.split_at_mut-front.ensures.back c.if-a-b.true c.requires.places.second c.requires.long in
    sym (parts.first_long c.index-front-a.result)

pub returns-then-a-b-clause-columns : goal.returns-then-a-b-clause-columns
returns-then-a-b-clause-columns g c =
    let columns = c.args.columns.now in
    let a = c.args.a in
    let b = c.args.b in
    let x = c.multiply_both.new.first in
    let y = c.multiply_both.new.second in
    let parts = parts_of (length (g.S.TargetSet.bits c.args.spare.now)) a b columns _ _ c.split_at_mut-front.ensures.front c.split_at_mut-front.ensures.back c.if-a-b.true c.requires.places.second c.requires.long in
    both_ok c.multiply_both.result
    (λ x_is y_is. parts.whole x y
    ∙ made columns a b c.args.to_first c.args.to_second _ _ x y (parts.first_is c.index-front-a.result) (parts.second_is c.index-back-0.result) x_is y_is)
    c.multiply_both.ensures.first c.multiply_both.ensures.second

pub returns-then-a-b-clause-long : goal.returns-then-a-b-clause-long
returns-then-a-b-clause-long g c =
    let parts = parts_of (length (g.S.TargetSet.bits c.args.spare.now)) c.args.a c.args.b c.args.columns.now _ _ c.split_at_mut-front.ensures.front c.split_at_mut-front.ensures.back c.if-a-b.true c.requires.places.second c.requires.long in
    parts.stay_long c.multiply_both.new.first c.multiply_both.new.second
    (c.multiply_both.ensures.first_len ∙ parts.first_long c.index-front-a.result)
    (c.multiply_both.ensures.second_len ∙ parts.second_long c.index-back-0.result)

-- ---- the first place comes after the second
pub bounds-front-b : goal.bounds-front-b
bounds-front-b g c =
    let behind : c.args.b < c.args.a = omega (arith, c.if-a-b.false, c.requires.places.differ) in
    let parts = parts_of (length (g.S.TargetSet.bits c.args.spare.now)) c.args.b c.args.a c.args.columns.now _ _ c.split_at_mut-front-else-a-b.ensures.front c.split_at_mut-front-else-a-b.ensures.back behind c.requires.places.first c.requires.long in
    parts.in_front

pub bounds-back-0-else-a-b : goal.bounds-back-0-else-a-b
bounds-back-0-else-a-b g c =
    let behind : c.args.b < c.args.a = omega (arith, c.if-a-b.false, c.requires.places.differ) in
    let parts = parts_of (length (g.S.TargetSet.bits c.args.spare.now)) c.args.b c.args.a c.args.columns.now _ _ c.split_at_mut-front-else-a-b.ensures.front c.split_at_mut-front-else-a-b.ensures.back behind c.requires.places.first c.requires.long in
    parts.in_back

pub multiply_both-requires-else-a-b-clause-same : goal.multiply_both-requires-else-a-b-clause-same
multiply_both-requires-else-a-b-clause-same g c =
    let behind : c.args.b < c.args.a = omega (arith, c.if-a-b.false, c.requires.places.differ) in
    let parts = parts_of (length (g.S.TargetSet.bits c.args.spare.now)) c.args.b c.args.a c.args.columns.now _ _ c.split_at_mut-front-else-a-b.ensures.front c.split_at_mut-front-else-a-b.ensures.back behind c.requires.places.first c.requires.long in
    parts.first_long c.index-front-b.result ∙ sym (parts.second_long c.index-back-0-else-a-b.result)

pub multiply_both-requires-else-a-b-clause-spare : goal.multiply_both-requires-else-a-b-clause-spare
multiply_both-requires-else-a-b-clause-spare g c =
    let behind : c.args.b < c.args.a = omega (arith, c.if-a-b.false, c.requires.places.differ) in
    let parts = parts_of (length (g.S.TargetSet.bits c.args.spare.now)) c.args.b c.args.a c.args.columns.now _ _ c.split_at_mut-front-else-a-b.ensures.front c.split_at_mut-front-else-a-b.ensures.back behind c.requires.places.first c.requires.long in
    sym (parts.second_long c.index-back-0-else-a-b.result)

pub returns-else-a-b-clause-columns : goal.returns-else-a-b-clause-columns
returns-else-a-b-clause-columns g c =
    let columns = c.args.columns.now in
    let a = c.args.a in
    let b = c.args.b in
    let x = c.multiply_both-else-a-b.new.first in
    let y = c.multiply_both-else-a-b.new.second in
    let behind : b < a = omega (arith, c.if-a-b.false, c.requires.places.differ) in
    let parts = parts_of (length (g.S.TargetSet.bits c.args.spare.now)) b a columns _ _ c.split_at_mut-front-else-a-b.ensures.front c.split_at_mut-front-else-a-b.ensures.back behind c.requires.places.first c.requires.long in
    both_ok c.multiply_both-else-a-b.result
    (λ x_is y_is. parts.whole y x
    ∙ (set_comm columns b a y x (λ e. c.requires.places.differ (sym e))
    ∙ made columns a b c.args.to_first c.args.to_second _ _ x y (parts.second_is c.index-back-0-else-a-b.result) (parts.first_is c.index-front-b.result) x_is y_is))
    c.multiply_both-else-a-b.ensures.first c.multiply_both-else-a-b.ensures.second

pub returns-else-a-b-clause-long : goal.returns-else-a-b-clause-long
returns-else-a-b-clause-long g c =
    let behind : c.args.b < c.args.a = omega (arith, c.if-a-b.false, c.requires.places.differ) in
    let parts = parts_of (length (g.S.TargetSet.bits c.args.spare.now)) c.args.b c.args.a c.args.columns.now _ _ c.split_at_mut-front-else-a-b.ensures.front c.split_at_mut-front-else-a-b.ensures.back behind c.requires.places.first c.requires.long in
    parts.stay_long c.multiply_both-else-a-b.new.second c.multiply_both-else-a-b.new.first
    (c.multiply_both-else-a-b.ensures.second_len ∙ parts.first_long c.index-front-b.result)
    (c.multiply_both-else-a-b.ensures.first_len ∙ parts.second_long c.index-back-0-else-a-b.result)
