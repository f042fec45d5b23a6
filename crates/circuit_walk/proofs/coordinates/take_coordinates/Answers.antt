-- Each detector's coordinates are taken where it is reached, and behind all instructions all were.
use Rattle.std.proofs.Common.{ℕ, List, [], length, sym, ap, subst, ◌∙◌}
use Rattle.cursor.proofs.Nested.{are_nested}
use Rattle.stim_parser.specs.Circuits.{Fits}
use Rattle.stim_parser.specs.Kept.{instruction_in}
use Rattle.stim_parser.specs.Verdicts.{Instruction}
use Rattle.circuit_walk.specs.private.Placing.{coordinates_from, offset_at}
use Rattle.circuit_walk.proofs.PlacingLemmas.{all_given, before_behind, placed_next}
use Rattle.circuit_walk.proofs.coordinates.take_coordinates.Goals as goal

pub start-cursor-requires : goal.start-cursor-requires
start-cursor-requires g c = are_nested Fits c.text-text.result.items.now.items c.text-text.ensures.written

pub returns : goal.returns
returns g c =
    let e = c.in_default.ensures in
    let all = all_given c.args.program.now c.text-text.result c.loop-i.cursor c.face.new.self c.accepted.ensures c.loop-i.invariant.held e.place e.same e.next in
    subst (λ (d : ℕ). g.T.CoordinateTaker.stands c.args.program.now c.args.taker.now d c.loop-i.taker) all c.loop-i.invariant.stands

pub take_or_shift-requires : goal.take_or_shift-requires
take_or_shift-requires g c =
    let e = c.in-Some.ensures in
    let invariant = c.loop-i.invariant in
    record {
      next = (
        c.args.taker.now,
        _,
        placed_next c.args.program.now c.text-text.result c.loop-i.cursor c.face.new.self c.loop-i.offset c.in-Some.i (instruction_in c.instruction_at-instruction.result) invariant.held e.place e.same e.next
            c.instruction_at-instruction.ensures.item invariant.offset_is,
        invariant.stands,
      );
    }

pub loop-i-preserved : goal.loop-i-preserved
loop-i-preserved g c =
    let e = c.in-Some.ensures in
    let invariant = c.loop-i.invariant in
    let program = c.args.program.now in
    let text = c.text-text.result in
    let i = instruction_in c.instruction_at-instruction.result in
    let placed = placed_next program text c.loop-i.cursor c.face.new.self c.loop-i.offset c.in-Some.i i invariant.held e.place e.same e.next c.instruction_at-instruction.ensures.item invariant.offset_is in
    let behind = before_behind text c.loop-i.cursor c.face.new.self c.pass.new.self c.in-Some.i i e.same (sym e.here) c.instruction_at-instruction.ensures.item c.pass.ensures.over in
    record {
      held = invariant.held;
      place = c.pass.ensures.place;
      offset_is = c.take_or_shift.ensures.offset _ placed ∙ ap offset_at (sym behind);
      stands =
          subst (λ (is : List Instruction). g.T.CoordinateTaker.stands program c.args.taker.now (length (coordinates_from [] is)) c.take_or_shift.new.taker) (sym behind)
          (c.take_or_shift.ensures.stands c.args.taker.now _ placed invariant.stands);
    }
