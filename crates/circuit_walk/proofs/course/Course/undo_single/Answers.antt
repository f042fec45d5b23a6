-- The gate at its qubit.
use Rattle.std.proofs.Common.{◌∙◌}
use Rattle.circuit_walk.proofs.Undoings.{goes_back, hands_last}
use Rattle.circuit_walk.proofs.course.Course.undo_single.Goals as goal

pub step_back-requires-clause-course : goal.step_back-requires-clause-course
step_back-requires-clause-course g c = (c.args.program.now, c.requires.place.course)

pub single-q-requires-clause-facing : goal.single-q-requires-clause-facing
single-q-requires-clause-facing g c = c.step_back.ensures.next

pub single-q-requires-clause-operation : goal.single-q-requires-clause-operation
single-q-requires-clause-operation g c = c.step_back.ensures.same ∙ c.requires.operation ∙ c.requires.kind

pub undo_one-requires : goal.undo_one-requires
undo_one-requires g c =
    hands_last g.U.StepUndoer.stands g.U.StepUndoer.lasts c.args.program.now c.args.undoer.now c.args.self.now c.step_back.new.self c.requires.place (c.step_back.ensures.course c.args.program.now c.requires.place.course) c.step_back.ensures.facing c.step_back.ensures.place _ c.single-q.ensures

pub returns : goal.returns
returns g c =
    goes_back g.U.StepUndoer.stands g.U.StepUndoer.lasts c.args.program.now c.args.undoer.now c.args.self.now c.step_back.new.self c.requires.place (c.step_back.ensures.course c.args.program.now c.requires.place.course) c.step_back.ensures.facing c.step_back.ensures.place _ c.single-q.ensures
    c.undo_one.new.self c.undo_one.result c.step_back.ensures.same c.undo_one.ensures
