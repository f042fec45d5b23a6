-- No fault stands right before the place where the step there is of another operation.
use Rattle.std.proofs.Common.{◌-◌, sym, ap, ◌∙◌, arith}
use Rattle.std.specs.Prelude.{slice_get}
use Rattle.circuit_walk.specs.Walks.{is_fault}
use Rattle.circuit_walk.proofs.RunLemmas.{no_fault_before}
use Rattle.circuit_walk.proofs.course.Course.pass_faults_back.Goals as goal
use Rattle.circuit_walk.proofs.course.Course.pass_faults_back.Goals.{else-face_step_before-via-then-face_step_before+else-makes_errors, else-face_step_before-via-else-face_step_before}

pub returns-else-face_step_before-clause-none : goal.returns-else-face_step_before-clause-none
returns-else-face_step_before-clause-none g c program course most zero some =
    let faced = c.face_step_before.new.self in
    elim c.else-face_step_before.branch [
      | else-face_step_before-via-then-face_step_before+else-makes_errors w ↦
          ap (λ p. is_fault (slice_get program.listing.steps (p - 1))) (sym c.face_step_before.ensures.place)
          ∙ no_fault_before program faced (c.face_step_before.ensures.course program course) (c.face_step_before.ensures.facing w.if-face_step_before.true) (sym w.makes_errors.ensures ∙ w.if-makes_errors.false)
      | else-face_step_before-via-else-face_step_before w ↦
          absurd (omega (arith, some, c.face_step_before.ensures.none w.if-face_step_before.false))
    ]
