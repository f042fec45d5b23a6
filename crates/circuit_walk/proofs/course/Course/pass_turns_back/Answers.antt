-- The turns that are gone back over are those that the cursor goes back over.
use Rattle.std.proofs.Common.{◌-◌, ◌<◌, sym, refl, ap, le-mul_of_pos_right, length, arith}
use Rattle.circuit_walk.proofs.TurnCourses.{back_over, goes_back, stands_alike}
use Rattle.circuit_walk.proofs.course.Course.pass_turns_back.Goals as goal

pub go_back_iterations-requires-clause-later : goal.go_back_iterations-requires-clause-later
go_back_iterations-requires-clause-later g c =
    stands_alike c.requires.course.0 c.args.self.now c.args.later.now c.requires.course.1 c.requires.course.2

pub overflow_cast-count : goal.overflow_cast-count
overflow_cast-count g c =
    let old = c.args.self.now in
    let later = c.args.later.now in
    let h = c.requires.course.1 in
    let over = back_over c.requires.course.0 old later h c.requires.course.2 c.if-not-self.false c.if-not-later.false (sym c.if-self-later.false) c.go_back_iterations.new.self c.in-Some.turns c.in-Some.ensures.place c.in-Some.ensures.back in
    let some : 0 < later.steps - old.steps = omega arith in
    omega (
      arith,
      le-mul_of_pos_right c.in-Some.turns some,
      over.enough,
      over.few,
      h.held.totals_are.steps,
      ap (λ l. length l.steps) h.held.listing,
      c.fits.ensures,
    )

pub counts_back-self-requires : goal.counts_back-self-requires
counts_back-self-requires g c =
    (back_over c.requires.course.0 c.args.self.now c.args.later.now c.requires.course.1 c.requires.course.2 c.if-not-self.false c.if-not-later.false (sym c.if-self-later.false) c.go_back_iterations.new.self c.in-Some.turns c.in-Some.ensures.place c.in-Some.ensures.back).grow

pub returns-in-Some-clause-course : goal.returns-in-Some-clause-course
returns-in-Some-clause-course g c program h j =
    goes_back program c.args.self.now c.args.later.now h j c.if-not-self.false c.if-not-later.false (sym c.if-self-later.false) c.go_back_iterations.new.self c.in-Some.turns c.in-Some.ensures.place c.in-Some.ensures.back _ _ c.counts_back-self.ensures refl

pub returns-in-Some-clause-again : goal.returns-in-Some-clause-again
returns-in-Some-clause-again g c program h j some =
    (back_over program c.args.self.now c.args.later.now h j c.if-not-self.false c.if-not-later.false (sym c.if-self-later.false) c.go_back_iterations.new.self c.in-Some.turns c.in-Some.ensures.place c.in-Some.ensures.back).again
