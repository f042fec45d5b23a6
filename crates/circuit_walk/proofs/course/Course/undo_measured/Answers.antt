-- The collapse of the target.
use Rattle.std.proofs.Common.{◌∙◌}
use Rattle.circuit_walk.proofs.Undoings.{goes_back, hands_last}
use Rattle.circuit_walk.proofs.course.Course.undo_measured.Goals as goal

pub step_back-requires-clause-course : goal.step_back-requires-clause-course
step_back-requires-clause-course g c = (c.args.program.now, c.requires.place.course)

pub measured-seen-requires-clause-facing : goal.measured-seen-requires-clause-facing
measured-seen-requires-clause-facing g c = c.step_back.ensures.next

pub measured-seen-requires-clause-operation : goal.measured-seen-requires-clause-operation
measured-seen-requires-clause-operation g c = c.step_back.ensures.same ∙ c.requires.operation ∙ c.requires.kind

pub undo_collapse-requires : goal.undo_collapse-requires
undo_collapse-requires g c =
    hands_last g.U.StepUndoer.stands g.U.StepUndoer.lasts c.args.program.now c.args.undoer.now c.args.self.now c.step_back.new.self c.requires.place (c.step_back.ensures.course c.args.program.now c.requires.place.course) c.step_back.ensures.facing c.step_back.ensures.place _ c.measured-seen.ensures

pub returns : goal.returns
returns g c =
    goes_back g.U.StepUndoer.stands g.U.StepUndoer.lasts c.args.program.now c.args.undoer.now c.args.self.now c.step_back.new.self c.requires.place (c.step_back.ensures.course c.args.program.now c.requires.place.course) c.step_back.ensures.facing c.step_back.ensures.place _ c.measured-seen.ensures
    c.undo_collapse.new.self c.undo_collapse.result c.step_back.ensures.same c.undo_collapse.ensures
