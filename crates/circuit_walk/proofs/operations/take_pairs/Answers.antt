-- The gate at the two qubits of the pair, or the letter that a record of the pair feeds.
use Rattle.std.proofs.Common.{ap, arith, refl, subst, ◌+◌, ◌∙◌}
use Rattle.circuit_walk.specs.private.Courses.{course_at}
use Rattle.circuit_walk.specs.private.Taken.{IsTaken, pair_in}
use Rattle.circuit_walk.proofs.TakeLemmas.{step_there}
use Rattle.circuit_walk.proofs.Takings.{begins, faces_on, few_steps, goes_over, hands, is_facing, onward}
use Rattle.circuit_walk.proofs.operations.take_pairs.Goals as goal

pub loop-inside-init : goal.loop-inside-init
loop-inside-init g c = record { gone = begins g.T.StepTaker.stands c.args.program.now c.args.taker.now (course_at c.args.text c.args.cursor.now c.args.inside.now) c.requires.place; operation = c.requires.operation }

pub pair-pair-requires-clause-facing : goal.pair-pair-requires-clause-facing
pair-pair-requires-clause-facing g c = is_facing c.args.program.now (course_at c.args.text c.args.cursor.now c.loop-inside.inside) c.loop-inside.invariant.gone.course c.loop-inside-test.true c.fits.ensures

pub go_on-requires-clause-few : goal.go_on-requires-clause-few
go_on-requires-clause-few g c = few_steps c.args.program.now (course_at c.args.text c.args.cursor.now c.loop-inside.inside) c.loop-inside.invariant.gone.course c.loop-inside-test.true c.fits.ensures

pub go_on-requires-clause-within : goal.go_on-requires-clause-within
go_on-requires-clause-within g c = c.pair-pair.ensures.within

pub apply_two-requires : goal.apply_two-requires
apply_two-requires g c = hands g.T.StepTaker.stands c.args.program.now c.loop-inside.taker (course_at c.args.text c.args.cursor.now c.loop-inside.inside) (faces_on g.T.StepTaker.stands c.args.program.now c.args.taker.now c.loop-inside.taker (course_at c.args.text c.args.cursor.now c.args.inside.now) (course_at c.args.text c.args.cursor.now c.loop-inside.inside) c.requires.place c.loop-inside.invariant.gone) c.loop-inside-test.true _ (subst (λ pair. IsTaken c.loop-inside.inside.here c.loop-inside.inside.counts (record { step = pair_in c.args.gate pair; at = c.loop-inside.inside.here.at + 2; counts = c.loop-inside.inside.counts })) c.in-Qubits.is c.pair-pair.ensures)

pub loop-inside-preserved-in-Qubits : goal.loop-inside-preserved-in-Qubits
loop-inside-preserved-in-Qubits g c =
    let some =
    goes_over g.T.StepTaker.stands c.args.program.now c.loop-inside.taker c.apply_two.new.self c.args.text c.args.cursor.now c.loop-inside.inside c.go_on.new.self (faces_on g.T.StepTaker.stands c.args.program.now c.args.taker.now c.loop-inside.taker (course_at c.args.text c.args.cursor.now c.args.inside.now) (course_at c.args.text c.args.cursor.now c.loop-inside.inside) c.requires.place c.loop-inside.invariant.gone) c.loop-inside-test.true _
    (subst (λ pair. IsTaken c.loop-inside.inside.here c.loop-inside.inside.counts (record { step = pair_in c.args.gate pair; at = c.loop-inside.inside.here.at + 2; counts = c.loop-inside.inside.counts })) c.in-Qubits.is c.pair-pair.ensures) _ refl c.go_on.ensures c.apply_two.ensures in
    record { gone = onward g.T.StepTaker.stands c.args.program.now _ _ _ (course_at c.args.text c.args.cursor.now c.args.inside.now) (course_at c.args.text c.args.cursor.now c.loop-inside.inside) _ c.loop-inside.invariant.gone some.gone; operation = some.same ∙ c.loop-inside.invariant.operation }

pub loop-inside-smaller-in-Qubits : goal.loop-inside-smaller-in-Qubits
loop-inside-smaller-in-Qubits g c =
    omega (arith, ap (λ i. i.steps) c.go_on.ensures, step_there c.args.program.now (course_at c.args.text c.args.cursor.now c.loop-inside.inside) c.loop-inside.invariant.gone.course c.loop-inside-test.true)

pub feed_back-requires : goal.feed_back-requires
feed_back-requires g c = hands g.T.StepTaker.stands c.args.program.now c.loop-inside.taker (course_at c.args.text c.args.cursor.now c.loop-inside.inside) (faces_on g.T.StepTaker.stands c.args.program.now c.args.taker.now c.loop-inside.taker (course_at c.args.text c.args.cursor.now c.args.inside.now) (course_at c.args.text c.args.cursor.now c.loop-inside.inside) c.requires.place c.loop-inside.invariant.gone) c.loop-inside-test.true _ (subst (λ pair. IsTaken c.loop-inside.inside.here c.loop-inside.inside.counts (record { step = pair_in c.args.gate pair; at = c.loop-inside.inside.here.at + 2; counts = c.loop-inside.inside.counts })) c.in-Fed.is c.pair-pair.ensures)

pub loop-inside-preserved : goal.loop-inside-preserved
loop-inside-preserved g c =
    let some =
    goes_over g.T.StepTaker.stands c.args.program.now c.loop-inside.taker c.feed_back.new.self c.args.text c.args.cursor.now c.loop-inside.inside c.go_on.new.self (faces_on g.T.StepTaker.stands c.args.program.now c.args.taker.now c.loop-inside.taker (course_at c.args.text c.args.cursor.now c.args.inside.now) (course_at c.args.text c.args.cursor.now c.loop-inside.inside) c.requires.place c.loop-inside.invariant.gone) c.loop-inside-test.true _
    (subst (λ pair. IsTaken c.loop-inside.inside.here c.loop-inside.inside.counts (record { step = pair_in c.args.gate pair; at = c.loop-inside.inside.here.at + 2; counts = c.loop-inside.inside.counts })) c.in-Fed.is c.pair-pair.ensures) _ refl c.go_on.ensures c.feed_back.ensures in
    record { gone = onward g.T.StepTaker.stands c.args.program.now _ _ _ (course_at c.args.text c.args.cursor.now c.args.inside.now) (course_at c.args.text c.args.cursor.now c.loop-inside.inside) _ c.loop-inside.invariant.gone some.gone; operation = some.same ∙ c.loop-inside.invariant.operation }

pub loop-inside-smaller : goal.loop-inside-smaller
loop-inside-smaller g c =
    omega (arith, ap (λ i. i.steps) c.go_on.ensures, step_there c.args.program.now (course_at c.args.text c.args.cursor.now c.loop-inside.inside) c.loop-inside.invariant.gone.course c.loop-inside-test.true)
