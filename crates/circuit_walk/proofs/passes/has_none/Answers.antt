-- A step that is left is one of a list that has none.
use Rattle.circuit_walk.specs.private.Courses.{course_at}
use Rattle.circuit_walk.proofs.Takings.{none_left}
use Rattle.circuit_walk.proofs.passes.has_none.Goals as goal

pub returns : goal.returns
returns g c = record { done = none_left c.args.program.now (course_at c.args.text c.args.cursor.now c.args.inside.now) c.requires.course c.requires.none }
