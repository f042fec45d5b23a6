-- The step of the instruction that the course is inside; its counts are those behind it.
use Rattle.std.proofs.Common.{arith}
use Rattle.circuit_walk.proofs.Takings.{few_steps, is_behind, is_facing, is_listed, is_named}
use Rattle.circuit_walk.proofs.course.Course.take.Goals as goal

pub next-taken-requires : goal.next-taken-requires
next-taken-requires g c = is_facing c.requires.course.0 c.args.self.now c.requires.course.1 c.requires.facing c.fits.ensures

pub overflow_add-self : goal.overflow_add-self
overflow_add-self g c = let few = few_steps c.requires.course.0 c.args.self.now c.requires.course.1 c.requires.facing c.fits.ensures in omega (arith, few)

pub returns-clause-step : goal.returns-clause-step
returns-clause-step g c program course = is_listed program c.args.self.now course c.requires.facing c.next-taken.result c.next-taken.ensures

pub returns-clause-course : goal.returns-clause-course
returns-clause-course g c program course = is_behind program c.args.self.now course c.requires.facing c.next-taken.result c.next-taken.ensures

pub returns-clause-named : goal.returns-clause-named
returns-clause-named g c program course = is_named program c.args.self.now course c.requires.facing c.next-taken.result c.next-taken.ensures
