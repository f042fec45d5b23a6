-- The faults that change nothing, and then the next one, if one is left.
use Rattle.std.proofs.Common.{◌∙◌, ap, arith}
use Rattle.circuit_walk.specs.Makes.{makes_errors}
use Rattle.circuit_walk.specs.private.Courses.{course_at}
use Rattle.circuit_walk.proofs.TakeLemmas.{step_there}
use Rattle.circuit_walk.proofs.Takings.{begins, faces_on, is_facing, onward, some_more, some_passed}
use Rattle.circuit_walk.proofs.errors.take_product_errors.Goals as goal

pub loop-inside-init : goal.loop-inside-init
loop-inside-init g c = record { gone = begins g.T.StepTaker.stands c.args.program.now c.args.taker.now (course_at c.args.text c.args.cursor.now c.args.inside.now) c.requires.place; operation = c.requires.operation }

pub pass_faults-requires-clause-place : goal.pass_faults-requires-clause-place
pass_faults-requires-clause-place g c = faces_on g.T.StepTaker.stands c.args.program.now c.args.taker.now c.loop-inside.taker (course_at c.args.text c.args.cursor.now c.args.inside.now) (course_at c.args.text c.args.cursor.now c.loop-inside.inside) c.requires.place c.loop-inside.invariant.gone

pub pass_faults-requires-clause-errors : goal.pass_faults-requires-clause-errors
pass_faults-requires-clause-errors g c = ap makes_errors c.loop-inside.invariant.operation

pub product_error-letters-requires-clause-facing : goal.product_error-letters-requires-clause-facing
product_error-letters-requires-clause-facing g c = is_facing c.args.program.now (course_at c.args.text c.args.cursor.now c.pass_faults.new.inside) c.pass_faults.ensures.gone.course c.if-inside.true c.fits.ensures

pub product_error-letters-requires-clause-operation : goal.product_error-letters-requires-clause-operation
product_error-letters-requires-clause-operation g c = c.pass_faults.ensures.same ∙ c.loop-inside.invariant.operation

pub take_error-requires-clause-place : goal.take_error-requires-clause-place
take_error-requires-clause-place g c = faces_on g.T.StepTaker.stands c.args.program.now c.loop-inside.taker c.pass_faults.new.taker (course_at c.args.text c.args.cursor.now c.loop-inside.inside) (course_at c.args.text c.args.cursor.now c.pass_faults.new.inside) (faces_on g.T.StepTaker.stands c.args.program.now c.args.taker.now c.loop-inside.taker (course_at c.args.text c.args.cursor.now c.args.inside.now) (course_at c.args.text c.args.cursor.now c.loop-inside.inside) c.requires.place c.loop-inside.invariant.gone) c.pass_faults.ensures.gone

pub loop-inside-preserved-then-inside : goal.loop-inside-preserved-then-inside
loop-inside-preserved-then-inside g c =
    let some =
    some_more g.T.StepTaker.stands c.args.program.now c.loop-inside.taker c.pass_faults.new.taker c.take_error.new.taker (course_at c.args.text c.args.cursor.now c.loop-inside.inside) (course_at c.args.text c.args.cursor.now c.pass_faults.new.inside) (course_at c.args.text c.args.cursor.now c.take_error.new.inside) c.pass_faults.ensures.gone c.pass_faults.ensures.same
    (omega (arith, c.pass_faults.ensures.on, c.pass_faults.ensures.further)) c.take_error.ensures in
    record { gone = onward g.T.StepTaker.stands c.args.program.now _ _ _ (course_at c.args.text c.args.cursor.now c.args.inside.now) (course_at c.args.text c.args.cursor.now c.loop-inside.inside) _ c.loop-inside.invariant.gone some.gone; operation = some.same ∙ c.loop-inside.invariant.operation }

pub loop-inside-preserved : goal.loop-inside-preserved
loop-inside-preserved g c =
    record { gone = onward g.T.StepTaker.stands c.args.program.now _ _ _ (course_at c.args.text c.args.cursor.now c.args.inside.now) (course_at c.args.text c.args.cursor.now c.loop-inside.inside) (course_at c.args.text c.args.cursor.now c.pass_faults.new.inside) c.loop-inside.invariant.gone c.pass_faults.ensures.gone; operation = c.pass_faults.ensures.same ∙ c.loop-inside.invariant.operation }

pub loop-inside-smaller-then-inside : goal.loop-inside-smaller-then-inside
loop-inside-smaller-then-inside g c =
    omega (arith, c.take_error.ensures.on, c.pass_faults.ensures.on, c.pass_faults.ensures.further, step_there c.args.program.now (course_at c.args.text c.args.cursor.now c.loop-inside.inside) c.loop-inside.invariant.gone.course c.loop-inside-test.true)

pub loop-inside-smaller : goal.loop-inside-smaller
loop-inside-smaller g c =
    let some = some_passed g.T.StepTaker.stands c.args.program.now c.loop-inside.taker c.pass_faults.new.taker (course_at c.args.text c.args.cursor.now c.loop-inside.inside) (course_at c.args.text c.args.cursor.now c.pass_faults.new.inside) (faces_on g.T.StepTaker.stands c.args.program.now c.args.taker.now c.loop-inside.taker (course_at c.args.text c.args.cursor.now c.args.inside.now) (course_at c.args.text c.args.cursor.now c.loop-inside.inside) c.requires.place c.loop-inside.invariant.gone) c.loop-inside-test.true c.pass_faults.ensures.gone c.pass_faults.ensures.same c.pass_faults.ensures.on c.pass_faults.ensures.end c.if-inside.false in
    omega (arith, some.on, step_there c.args.program.now (course_at c.args.text c.args.cursor.now c.loop-inside.inside) c.loop-inside.invariant.gone.course c.loop-inside-test.true)
