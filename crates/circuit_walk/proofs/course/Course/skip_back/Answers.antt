-- The faults before the place are in a row.
use Rattle.std.proofs.Common.{◌-◌, arith}
use Rattle.circuit_walk.proofs.RunLemmas.{faults_from, in_error, moves, room}
use Rattle.circuit_walk.proofs.TakeLemmas.{is_inside_behind}
use Rattle.circuit_walk.proofs.course.Course.skip_back.Goals as goal

pub overflow_cast-self : goal.overflow_cast-self
overflow_cast-self g c =
    let old = c.args.self.now in
    let program = c.requires.course.0 in
    let course = c.requires.course.1 in
    let e = in_error program old course (is_inside_behind program old course c.requires.facing) c.requires.errors in
    let fits = room program old course e (omega (arith, c.requires.facing, e.within)) in
    omega (arith, c.requires.within, e.within, fits.0, c.fits.ensures)

pub overflow_sub-self : goal.overflow_sub-self
overflow_sub-self g c =
    let old = c.args.self.now in
    let program = c.requires.course.0 in
    let course = c.requires.course.1 in
    let e = in_error program old course (is_inside_behind program old course c.requires.facing) c.requires.errors in
    omega (arith, c.requires.within, e.number_is)

pub overflow_sub-self-2 : goal.overflow_sub-self-2
overflow_sub-self-2 g c =
    let old = c.args.self.now in
    let program = c.requires.course.0 in
    let course = c.requires.course.1 in
    let e = in_error program old course (is_inside_behind program old course c.requires.facing) c.requires.errors in
    omega (arith, c.requires.within, e.number_is, e.place_is)

pub overflow_sub-self-3 : goal.overflow_sub-self-3
overflow_sub-self-3 g c =
    let old = c.args.self.now in
    let program = c.requires.course.0 in
    let course = c.requires.course.1 in
    let e = in_error program old course (is_inside_behind program old course c.requires.facing) c.requires.errors in
    omega (arith, c.requires.within, e.place_is)

pub returns-clause-course : goal.returns-clause-course
returns-clause-course g c program course =
    let old = c.args.self.now in
    let count = c.args.count in
    let inside = is_inside_behind program old course c.requires.facing in
    let e = in_error program old course inside c.requires.errors in
    moves program old course inside c.requires.errors e (old.here.at - count) (old.counts.faults - count) (old.steps - count)
    (omega (arith, e.within)) (omega (arith, e.number_is, c.requires.within)) (omega (arith, e.place_is, c.requires.within))

pub returns-clause-place : goal.returns-clause-place
returns-clause-place g c =
    let old = c.args.self.now in
    let program = c.requires.course.0 in
    let course = c.requires.course.1 in
    let e = in_error program old course (is_inside_behind program old course c.requires.facing) c.requires.errors in
    omega (arith, e.place_is, c.requires.within)

pub returns-clause-passed : goal.returns-clause-passed
returns-clause-passed g c program course =
    let old = c.args.self.now in
    let count = c.args.count in
    let e = in_error program old course (is_inside_behind program old course c.requires.facing) c.requires.errors in
    faults_from program old course e (old.here.at - count) count (old.steps - count)
    (omega (arith, e.within, c.requires.within)) (omega (arith, e.place_is, c.requires.within))
