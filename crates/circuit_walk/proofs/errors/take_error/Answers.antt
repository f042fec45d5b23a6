-- The fault behind those before it.
use Rattle.circuit_walk.specs.private.Courses.{course_at}
use Rattle.circuit_walk.proofs.Takings.{few_steps, goes_over, hands, is_facing}
use Rattle.circuit_walk.proofs.errors.take_error.Goals as goal

pub behind_fault-behind-requires : goal.behind_fault-behind-requires
behind_fault-behind-requires g c = (is_facing c.args.program.now (course_at c.args.text c.args.cursor.now c.args.inside.now) c.requires.place.course c.requires.facing c.fits.ensures).faults

pub go_on-requires-clause-few : goal.go_on-requires-clause-few
go_on-requires-clause-few g c = few_steps c.args.program.now (course_at c.args.text c.args.cursor.now c.args.inside.now) c.requires.place.course c.requires.facing c.fits.ensures

pub go_on-requires-clause-within : goal.go_on-requires-clause-within
go_on-requires-clause-within g c = c.requires.taken.within

pub fault-requires : goal.fault-requires
fault-requires g c = hands g.T.StepTaker.stands c.args.program.now c.args.taker.now (course_at c.args.text c.args.cursor.now c.args.inside.now) c.requires.place c.requires.facing _ c.requires.taken

pub returns : goal.returns
returns g c =
    goes_over g.T.StepTaker.stands c.args.program.now c.args.taker.now c.fault.new.self c.args.text c.args.cursor.now c.args.inside.now c.go_on.new.self c.requires.place c.requires.facing _
    c.requires.taken _ c.behind_fault-behind.ensures c.go_on.ensures c.fault.ensures
