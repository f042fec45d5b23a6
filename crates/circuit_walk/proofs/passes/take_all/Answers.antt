-- Each instruction is entered before its first step and left behind its last one.
use Rattle.std.proofs.Common.{ap, length, subst, arith}
use Rattle.cursor.proofs.Nested.{are_nested}
use Rattle.stim_parser.specs.Circuits.{Fits}
use Rattle.circuit_walk.proofs.PassLemmas.{ends_passing, enters, fewer_left, leaves, next_fits, starts_passing}
use Rattle.circuit_walk.proofs.passes.take_all.Goals as goal

pub start-cursor-requires : goal.start-cursor-requires
start-cursor-requires g c = are_nested Fits c.text-text.result.items.now.items c.text-text.ensures.written

pub loop-i-init : goal.loop-i-init
loop-i-init g c =
    record {
      passing = starts_passing c.args.program.now c.text-text.result c.start-cursor.result c.text-text.ensures c.start-cursor.ensures.place c.start-cursor.ensures.before;
      stands = c.requires;
    }

pub steps_at-requires : goal.steps_at-requires
steps_at-requires g c =
    let e = c.in-Some.ensures in
    next_fits c.args.program.now c.text-text.result c.loop-i.cursor c.face.new.self c.loop-i.counts c.loop-i.steps c.in-Some.i c.loop-i.invariant.passing e.place e.same e.next

pub take_instruction-requires : goal.take_instruction-requires
take_instruction-requires g c =
    let e = c.in-Some.ensures in
    record {
      place = record {
        course =
            enters c.args.program.now c.text-text.result c.loop-i.cursor c.face.new.self c.loop-i.counts c.loop-i.steps c.in-Some.i c.loop-i.invariant.passing e.place e.same e.next
            c.steps_at.result e.here c.steps_at.ensures.steps c.steps_at.ensures.at c.steps_at.ensures.chance;
        stands = (c.args.taker.now, c.loop-i.invariant.stands);
      };
    }

pub loop-i-smaller : goal.loop-i-smaller
loop-i-smaller g c =
    let e = c.in-Some.ensures in
    let fewer = fewer_left c.args.program.now c.text-text.result c.face.new.self c.pass.new.self c.take_instruction.new.inside c.take_instruction.ensures.gone.course c.take_instruction.ensures.done
    c.pass.ensures.place c.pass.ensures.over in
    omega (arith, fewer, ap length e.same.left)

pub loop-i-preserved : goal.loop-i-preserved
loop-i-preserved g c =
    record {
      passing =
          leaves c.args.program.now c.text-text.result c.face.new.self c.pass.new.self c.take_instruction.new.inside c.take_instruction.ensures.gone.course c.take_instruction.ensures.done
          c.pass.ensures.place c.pass.ensures.over;
      stands = c.take_instruction.ensures.gone.stands c.args.taker.now c.loop-i.invariant.stands;
    }

pub returns : goal.returns
returns g c =
    let e = c.in_default.ensures in
    let end = ends_passing c.args.program.now c.text-text.result c.loop-i.cursor c.face.new.self c.loop-i.counts c.loop-i.steps c.loop-i.invariant.passing e.place e.same e.next in
    subst (λ k. g.T.StepTaker.stands c.args.program.now c.args.taker.now k c.loop-i.taker) end c.loop-i.invariant.stands
