-- The step before the place, of the instruction that the course is inside; its counts are those before it.
use Rattle.std.proofs.Common.{arith}
use Rattle.circuit_walk.proofs.BackLemmas.{is_earlier, is_not_last, takes_back}
use Rattle.circuit_walk.proofs.PlaceCounts.{counts_of}
use Rattle.circuit_walk.proofs.Takings.{is_facing}
use Rattle.circuit_walk.proofs.course.Course.step_back.Goals as goal

pub counts_before-self-requires-clause-behind : goal.counts_before-self-requires-clause-behind
counts_before-self-requires-clause-behind g c =
    let back = takes_back c.requires.course.0 c.args.self.now c.requires.course.1 c.requires.facing in
    (counts_of c.requires.course.0.listing.steps back.place, back.counts_are)

pub overflow_sub-self : goal.overflow_sub-self
overflow_sub-self g c = omega (arith, (takes_back c.requires.course.0 c.args.self.now c.requires.course.1 c.requires.facing).place_is)

pub returns-clause-course : goal.returns-clause-course
returns-clause-course g c program course =
    is_earlier program c.args.self.now course c.requires.facing c.place_before-self.result c.counts_before-self.result c.place_before-self.ensures.place c.counts_before-self.ensures

pub returns-clause-facing : goal.returns-clause-facing
returns-clause-facing g c =
    is_not_last c.requires.course.0 c.args.self.now c.requires.course.1 c.requires.facing c.place_before-self.result c.counts_before-self.result c.place_before-self.ensures.place c.counts_before-self.ensures

pub returns-clause-next : goal.returns-clause-next
returns-clause-next g c =
    let program = c.requires.course.0 in
    is_facing program _ (returns-clause-course g c program c.requires.course.1) (returns-clause-facing g c) c.fits.ensures

pub returns-clause-place : goal.returns-clause-place
returns-clause-place g c = omega (arith, (takes_back c.requires.course.0 c.args.self.now c.requires.course.1 c.requires.facing).place_is)
