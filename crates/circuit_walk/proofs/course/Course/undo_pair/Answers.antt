-- The gate at the two qubits of the pair, or the letter that a record of the pair feeds.
use Rattle.std.proofs.Common.{◌+◌, ◌∙◌, subst}
use Rattle.circuit_walk.specs.private.Taken.{IsTaken, pair_in}
use Rattle.circuit_walk.proofs.Undoings.{goes_back, hands_last}
use Rattle.circuit_walk.proofs.course.Course.undo_pair.Goals as goal

pub step_back-requires-clause-course : goal.step_back-requires-clause-course
step_back-requires-clause-course g c = (c.args.program.now, c.requires.place.course)

pub pair-requires-clause-facing : goal.pair-requires-clause-facing
pair-requires-clause-facing g c = c.step_back.ensures.next

pub pair-requires-clause-operation : goal.pair-requires-clause-operation
pair-requires-clause-operation g c = c.step_back.ensures.same ∙ c.requires.operation ∙ c.requires.kind

pub undo_two-requires : goal.undo_two-requires
undo_two-requires g c =
    hands_last g.U.StepUndoer.stands g.U.StepUndoer.lasts c.args.program.now c.args.undoer.now c.args.self.now c.step_back.new.self c.requires.place (c.step_back.ensures.course c.args.program.now c.requires.place.course) c.step_back.ensures.facing c.step_back.ensures.place _ (subst (λ pair. IsTaken c.step_back.new.self.here c.step_back.new.self.counts (record { step = pair_in c.args.gate pair; at = c.step_back.new.self.here.at + 2; counts = c.step_back.new.self.counts })) c.in-Qubits.is c.pair.ensures)

pub returns-in-Qubits : goal.returns-in-Qubits
returns-in-Qubits g c =
    goes_back g.U.StepUndoer.stands g.U.StepUndoer.lasts c.args.program.now c.args.undoer.now c.args.self.now c.step_back.new.self c.requires.place (c.step_back.ensures.course c.args.program.now c.requires.place.course) c.step_back.ensures.facing c.step_back.ensures.place _ (subst (λ pair. IsTaken c.step_back.new.self.here c.step_back.new.self.counts (record { step = pair_in c.args.gate pair; at = c.step_back.new.self.here.at + 2; counts = c.step_back.new.self.counts })) c.in-Qubits.is c.pair.ensures)
    c.undo_two.new.self c.undo_two.result c.step_back.ensures.same c.undo_two.ensures

pub undo_feedback-requires : goal.undo_feedback-requires
undo_feedback-requires g c =
    hands_last g.U.StepUndoer.stands g.U.StepUndoer.lasts c.args.program.now c.args.undoer.now c.args.self.now c.step_back.new.self c.requires.place (c.step_back.ensures.course c.args.program.now c.requires.place.course) c.step_back.ensures.facing c.step_back.ensures.place _ (subst (λ pair. IsTaken c.step_back.new.self.here c.step_back.new.self.counts (record { step = pair_in c.args.gate pair; at = c.step_back.new.self.here.at + 2; counts = c.step_back.new.self.counts })) c.in-Fed.is c.pair.ensures)

pub returns-in-Fed : goal.returns-in-Fed
returns-in-Fed g c =
    goes_back g.U.StepUndoer.stands g.U.StepUndoer.lasts c.args.program.now c.args.undoer.now c.args.self.now c.step_back.new.self c.requires.place (c.step_back.ensures.course c.args.program.now c.requires.place.course) c.step_back.ensures.facing c.step_back.ensures.place _ (subst (λ pair. IsTaken c.step_back.new.self.here c.step_back.new.self.counts (record { step = pair_in c.args.gate pair; at = c.step_back.new.self.here.at + 2; counts = c.step_back.new.self.counts })) c.in-Fed.is c.pair.ensures)
    c.undo_feedback.new.self c.undo_feedback.result c.step_back.ensures.same c.undo_feedback.ensures
