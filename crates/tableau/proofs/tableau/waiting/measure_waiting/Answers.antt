use Rattle.std.proofs.Common.{sym, ◌∙◌, arith}
use Rattle.tableau.proofs.WaitingSteps.{awaited_made, awaited_more, awaited_still, state_carried, waits_more, waits_still}
use Rattle.tableau.proofs.tableau.waiting.measure_waiting.Goals as goal

pub returns-in-Some-clause-waits : goal.returns-in-Some-clause-waits
returns-in-Some-clause-waits g c =
    waits_still c.make_room.new.tableau c.measure_after.new.self c.measure_after.ensures.same c.args.turns.now c.split_at_mut-made.result.0.now c.split_at_mut-made.result.1.now c.make_room.new.waiting
    c.make_room.ensures.waits (sym c.split_at_mut-made.ensures.value) c.split_at_mut-made.ensures.front_len (omega (arith, c.split_at_mut-made.ensures.back_len, c.make_room.ensures.room))
    c.measure_after.new.turn c.measure_after.ensures.size
    c.in-Some.ensures.measures.turns

pub returns-in-Some-clause-state : goal.returns-in-Some-clause-state
returns-in-Some-clause-state g c =
    let made =
    awaited_made c.make_room.new.tableau c.measure_after.new.self c.measure_after.ensures.same c.args.turns.now c.split_at_mut-made.result.0.now c.split_at_mut-made.result.1.now c.make_room.new.waiting
    c.make_room.ensures.waits (sym c.split_at_mut-made.ensures.value) c.split_at_mut-made.ensures.front_len (omega (arith, c.split_at_mut-made.ensures.back_len, c.make_room.ensures.room))
    c.measure_after.new.turn c.measure_after.ensures.size in
    let still =
    awaited_still c.make_room.new.tableau c.measure_after.new.self c.measure_after.ensures.same c.args.turns.now c.split_at_mut-made.result.0.now c.split_at_mut-made.result.1.now c.make_room.new.waiting
    c.make_room.ensures.waits (sym c.split_at_mut-made.ensures.value) c.split_at_mut-made.ensures.front_len (omega (arith, c.split_at_mut-made.ensures.back_len, c.make_room.ensures.room))
    c.measure_after.new.turn c.measure_after.ensures.size in
    state_carried _ _ c.args.qubit c.args.letter c.args.coin _ _ _ _ c.make_room.ensures.len (made ∙ c.make_room.ensures.same) (still ∙ sym made) c.in-Some.ensures.measures.state_is

pub returns-in-None-clause-waits : goal.returns-in-None-clause-waits
returns-in-None-clause-waits g c =
    waits_more c.make_room.new.tableau c.measure_after.new.self c.measure_after.ensures.same c.args.turns.now c.split_at_mut-made.result.0.now c.split_at_mut-made.result.1.now c.make_room.new.waiting
    c.make_room.ensures.waits (sym c.split_at_mut-made.ensures.value) c.split_at_mut-made.ensures.front_len (omega (arith, c.split_at_mut-made.ensures.back_len, c.make_room.ensures.room))
    c.measure_after.new.turn c.measure_after.ensures.size
    c.in-None.ensures.measures.turns

pub returns-in-None-clause-state : goal.returns-in-None-clause-state
returns-in-None-clause-state g c =
    let made =
    awaited_made c.make_room.new.tableau c.measure_after.new.self c.measure_after.ensures.same c.args.turns.now c.split_at_mut-made.result.0.now c.split_at_mut-made.result.1.now c.make_room.new.waiting
    c.make_room.ensures.waits (sym c.split_at_mut-made.ensures.value) c.split_at_mut-made.ensures.front_len (omega (arith, c.split_at_mut-made.ensures.back_len, c.make_room.ensures.room))
    c.measure_after.new.turn c.measure_after.ensures.size in
    let more =
    awaited_more c.make_room.new.tableau c.measure_after.new.self c.measure_after.ensures.same c.args.turns.now c.split_at_mut-made.result.0.now c.split_at_mut-made.result.1.now c.make_room.new.waiting
    c.make_room.ensures.waits (sym c.split_at_mut-made.ensures.value) c.split_at_mut-made.ensures.front_len (omega (arith, c.split_at_mut-made.ensures.back_len, c.make_room.ensures.room))
    c.measure_after.new.turn c.measure_after.ensures.size in
    state_carried _ _ c.args.qubit c.args.letter c.args.coin _ _ _ _ c.make_room.ensures.len (made ∙ c.make_room.ensures.same) more c.in-None.ensures.measures.state_is
