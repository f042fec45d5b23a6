-- The collapse of the target.
use Rattle.std.proofs.Common.{◌∙◌}
use Rattle.circuit_walk.proofs.Undoings.{goes_back, hands_last}
use Rattle.circuit_walk.proofs.course.Course.undo_reset.Goals as goal

pub step_back-requires-clause-course : goal.step_back-requires-clause-course
step_back-requires-clause-course g c = (c.args.program.now, c.requires.place.course)

pub reset-qubit-requires-clause-facing : goal.reset-qubit-requires-clause-facing
reset-qubit-requires-clause-facing g c = c.step_back.ensures.next

pub reset-qubit-requires-clause-operation : goal.reset-qubit-requires-clause-operation
reset-qubit-requires-clause-operation g c = c.step_back.ensures.same ∙ c.requires.operation ∙ c.requires.kind

pub undo_collapse-requires : goal.undo_collapse-requires
undo_collapse-requires g c =
    hands_last g.U.StepUndoer.stands g.U.StepUndoer.lasts c.args.program.now c.args.undoer.now c.args.self.now c.step_back.new.self c.requires.place (c.step_back.ensures.course c.args.program.now c.requires.place.course) c.step_back.ensures.facing c.step_back.ensures.place _ c.reset-qubit.ensures

pub returns : goal.returns
returns g c =
    goes_back g.U.StepUndoer.stands g.U.StepUndoer.lasts c.args.program.now c.args.undoer.now c.args.self.now c.step_back.new.self c.requires.place (c.step_back.ensures.course c.args.program.now c.requires.place.course) c.step_back.ensures.facing c.step_back.ensures.place _ c.reset-qubit.ensures
    c.undo_collapse.new.self c.undo_collapse.result c.step_back.ensures.same c.undo_collapse.ensures
