-- The faults ahead are in a row, and the program has room for them.
use Rattle.std.proofs.Common.{◌+◌, ◌-◌, ◌≤◌, refl, arith}
use Rattle.circuit_walk.specs.private.Courses.{course_at}
use Rattle.circuit_walk.proofs.RunLemmas.{InError, in_error, moves, numbered, room}
use Rattle.circuit_walk.proofs.errors.pass_faults.Given.{Over}
use Rattle.circuit_walk.proofs.errors.pass_faults.Goals as goal
use Rattle.circuit_walk.proofs.errors.pass_faults.Goals.{After-fits}

-- the place is in an instruction whose steps are faults
error : (g : Over) (c : After-fits g) → InError c.args.program.now (course_at c.args.text c.args.cursor.now c.args.inside.now)
error g c = in_error c.args.program.now (course_at c.args.text c.args.cursor.now c.args.inside.now) c.requires.place.course refl c.requires.errors

fit : (g : Over) (c : After-fits g) → ((error g c).base + c.args.inside.now.here.end ≤ c.args.text.totals.steps) × (c.args.inside.now.counts.faults ≤ c.args.inside.now.steps)
fit g c =
    room c.args.program.now (course_at c.args.text c.args.cursor.now c.args.inside.now) c.requires.place.course (error g c) (omega (arith, c.requires.facing, (error g c).within))

pub overflow_sub-left : goal.overflow_sub-left
overflow_sub-left g c = (error g (goal.at.overflow_sub-left g c).After-fits).within

pub pass_faults-passed-requires : goal.pass_faults-passed-requires
pass_faults-passed-requires g c =
    let e = error g (goal.at.pass_faults-passed-requires g c).After-fits in
    let old = course_at c.args.text c.args.cursor.now c.args.inside.now in
    record { next = (c.requires.place.stands.0, old.steps, c.requires.place.stands.1, numbered c.args.program.now old e (old.here.end - old.here.at) (omega (arith, e.within))) }

pub overflow_cast-inside : goal.overflow_cast-inside
overflow_cast-inside g c =
    let here = (goal.at.overflow_cast-inside g c).After-fits in
    omega (arith, c.pass_faults-passed.ensures.few, (fit g here).0, (error g here).within, c.fits.ensures)

pub overflow_add-inside-2 : goal.overflow_add-inside-2
overflow_add-inside-2 g c =
    let here = (goal.at.overflow_add-inside-2 g c).After-fits in
    omega (arith, c.pass_faults-passed.ensures.few, (fit g here).0, (fit g here).1, (error g here).within, (error g here).place_is, c.fits.ensures)

pub overflow_add-inside-3 : goal.overflow_add-inside-3
overflow_add-inside-3 g c =
    let here = (goal.at.overflow_add-inside-3 g c).After-fits in
    omega (arith, c.pass_faults-passed.ensures.few, (fit g here).0, (error g here).within, (error g here).place_is, c.fits.ensures)

pub returns-clause-gone : goal.returns-clause-gone
returns-clause-gone g c =
    let here = (goal.at.returns-clause-gone g c).After-fits in
    let old = course_at c.args.text c.args.cursor.now c.args.inside.now in
    let e = error g here in
    let passed = c.pass_faults-passed.result in
    record {
      course =
          moves c.args.program.now old c.requires.place.course refl c.requires.errors e (old.here.at + passed) (old.counts.faults + passed) (old.steps + passed)
          (omega (arith, e.within, c.pass_faults-passed.ensures.few)) (omega (arith, e.number_is)) (omega (arith, e.place_is));
      stands = λ begun stands. c.pass_faults-passed.ensures.passed begun old.steps stands (numbered c.args.program.now old e (old.here.end - old.here.at) (omega (arith, e.within)));
    }
