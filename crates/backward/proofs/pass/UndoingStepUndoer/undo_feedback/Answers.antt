-- The words stay, and the targets that the letter hits take the record in.
use Rattle.std.proofs.Common.{◌≡◌, ◌+◌, ℕ, ◌-◌, subst, sym, refl, arith}
use Rattle.std.proofs.lemmas.Result.{on_ok_weaker}
use Rattle.circuit_walk.specs.Steps.{listed}
use Rattle.circuit_walk.specs.declared.step.Step.TheVariants.{Feedback}
use Rattle.backward.specs.private.Passes.{IsFeedbackAt, IsPassed}
use Rattle.backward.specs.private.Steps.{IsUndone}
use Rattle.backward.proofs.StepLemmas.{over_quiet, stays_over, step_at, store_over, undoing_over}
use Rattle.backward.proofs.pass.UndoingStepUndoer.undo_feedback.Goals as goal

pub overflow_sub-self : goal.overflow_sub-self
overflow_sub-self g c = omega (arith, c.requires.1.2.3)

-- the place that is told
place_is : (place k : ℕ) → place ≡ k + 1 → place - 1 ≡ k
place_is place k e = omega (arith, e)

pub feedback-requires-clause-step : goal.feedback-requires-clause-step
feedback-requires-clause-step g c =
    let n = c.requires.1 in
    let program = c.args.program.now.listing in
    let step : IsFeedbackAt program n.1 (record { qubit = c.args.q; letter = c.args.letter }) c.args.rec = record { step = step_at program n.1 (listed program.qubits (Feedback c.args.letter c.args.q c.args.rec)) n.3; term_fits = c.requires.0.1; is_record = c.requires.0.2 } in
    subst (λ p. IsFeedbackAt program p (record { qubit = c.args.q; letter = c.args.letter }) c.args.rec) (sym (place_is _ n.1 n.2.3)) step

pub feedback-requires-clause-passed : goal.feedback-requires-clause-passed
feedback-requires-clause-passed g c =
    let n = c.requires.1 in
    subst (λ p. IsPassed c.args.program.now.listing (p + 1) (g.T.Tracker.tracked c.args.self.now.tracker.now) c.args.self.now.found.now) (sym (place_is _ n.1 n.2.3)) n.2.4.passed

pub returns : goal.returns
returns g c begun k h got =
    let program = c.args.program.now in
    let self = c.args.self.now in
    let there = step_at program.listing k _ got in
    let undone = subst (λ p. IsUndone g.T.Tracker.tracked program.listing p c.feedback.new.tracker self.found.now c.feedback.new.found c.feedback.result) (place_is _ k h.3) c.feedback.ensures in
    let over = over_quiet self.lines.now c.feedback.result _ there refl undone in
    record {
      stands = on_ok_weaker c.feedback.result (λ u. (h.0, h.1, h.2, omega (arith, h.3), u)) (undoing_over h.4 over);
      lasts = (h.0, h.1, h.2, stays_over h.4 over, store_over h.4 over);
    }
