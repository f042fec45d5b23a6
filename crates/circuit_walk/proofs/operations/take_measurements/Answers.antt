-- The measurement of the target.
use Rattle.std.proofs.Common.{ap, arith, ◌∙◌}
use Rattle.circuit_walk.specs.private.Courses.{course_at}
use Rattle.circuit_walk.proofs.TakeLemmas.{step_there}
use Rattle.circuit_walk.proofs.Takings.{begins, faces_on, few_steps, goes_over, hands, is_facing, onward}
use Rattle.circuit_walk.proofs.operations.take_measurements.Goals as goal

pub loop-inside-init : goal.loop-inside-init
loop-inside-init g c = record { gone = begins g.T.StepTaker.stands c.args.program.now c.args.taker.now (course_at c.args.text c.args.cursor.now c.args.inside.now) c.requires.place; operation = c.requires.operation }

pub measured-seen-requires-clause-facing : goal.measured-seen-requires-clause-facing
measured-seen-requires-clause-facing g c = is_facing c.args.program.now (course_at c.args.text c.args.cursor.now c.loop-inside.inside) c.loop-inside.invariant.gone.course c.loop-inside-test.true c.fits.ensures

pub go_on-requires-clause-few : goal.go_on-requires-clause-few
go_on-requires-clause-few g c = few_steps c.args.program.now (course_at c.args.text c.args.cursor.now c.loop-inside.inside) c.loop-inside.invariant.gone.course c.loop-inside-test.true c.fits.ensures

pub go_on-requires-clause-within : goal.go_on-requires-clause-within
go_on-requires-clause-within g c = c.measured-seen.ensures.within

pub behind_record-behind-requires-clause-records : goal.behind_record-behind-requires-clause-records
behind_record-behind-requires-clause-records g c = (is_facing c.args.program.now (course_at c.args.text c.args.cursor.now c.loop-inside.inside) c.loop-inside.invariant.gone.course c.loop-inside-test.true c.fits.ensures).records

pub behind_record-behind-requires-clause-collapses : goal.behind_record-behind-requires-clause-collapses
behind_record-behind-requires-clause-collapses g c = (is_facing c.args.program.now (course_at c.args.text c.args.cursor.now c.loop-inside.inside) c.loop-inside.invariant.gone.course c.loop-inside-test.true c.fits.ensures).collapses

pub behind_record-behind-requires-clause-faults : goal.behind_record-behind-requires-clause-faults
behind_record-behind-requires-clause-faults g c = (is_facing c.args.program.now (course_at c.args.text c.args.cursor.now c.loop-inside.inside) c.loop-inside.invariant.gone.course c.loop-inside-test.true c.fits.ensures).faults

pub collapse-requires : goal.collapse-requires
collapse-requires g c = hands g.T.StepTaker.stands c.args.program.now c.loop-inside.taker (course_at c.args.text c.args.cursor.now c.loop-inside.inside) (faces_on g.T.StepTaker.stands c.args.program.now c.args.taker.now c.loop-inside.taker (course_at c.args.text c.args.cursor.now c.args.inside.now) (course_at c.args.text c.args.cursor.now c.loop-inside.inside) c.requires.place c.loop-inside.invariant.gone) c.loop-inside-test.true _ c.measured-seen.ensures

pub loop-inside-preserved : goal.loop-inside-preserved
loop-inside-preserved g c =
    let some =
    goes_over g.T.StepTaker.stands c.args.program.now c.loop-inside.taker c.collapse.new.self c.args.text c.args.cursor.now c.loop-inside.inside c.go_on.new.self (faces_on g.T.StepTaker.stands c.args.program.now c.args.taker.now c.loop-inside.taker (course_at c.args.text c.args.cursor.now c.args.inside.now) (course_at c.args.text c.args.cursor.now c.loop-inside.inside) c.requires.place c.loop-inside.invariant.gone) c.loop-inside-test.true _
    c.measured-seen.ensures _ c.behind_record-behind.ensures c.go_on.ensures c.collapse.ensures in
    record { gone = onward g.T.StepTaker.stands c.args.program.now _ _ _ (course_at c.args.text c.args.cursor.now c.args.inside.now) (course_at c.args.text c.args.cursor.now c.loop-inside.inside) _ c.loop-inside.invariant.gone some.gone; operation = some.same ∙ c.loop-inside.invariant.operation }

pub loop-inside-smaller : goal.loop-inside-smaller
loop-inside-smaller g c =
    omega (arith, ap (λ i. i.steps) c.go_on.ensures, step_there c.args.program.now (course_at c.args.text c.args.cursor.now c.loop-inside.inside) c.loop-inside.invariant.gone.course c.loop-inside-test.true)
