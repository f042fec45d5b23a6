-- The fault of the letters.
use Rattle.std.proofs.Common.{◌+◌, ◌∙◌, subst, sym}
use Rattle.circuit_walk.specs.declared.step.FaultName.{FaultName}
use Rattle.circuit_walk.specs.declared.step.Step.TheVariants.{Fault}
use Rattle.circuit_walk.specs.private.Taken.{IsTaken}
use Rattle.circuit_walk.proofs.Undoings.{goes_back, hands_last}
use Rattle.circuit_walk.proofs.course.Course.undo_product_error.Goals as goal

pub step_back-requires-clause-course : goal.step_back-requires-clause-course
step_back-requires-clause-course g c = (c.args.program.now, c.requires.place.course)

pub product_error-letters-requires-clause-facing : goal.product_error-letters-requires-clause-facing
product_error-letters-requires-clause-facing g c = c.step_back.ensures.next

pub product_error-letters-requires-clause-operation : goal.product_error-letters-requires-clause-operation
product_error-letters-requires-clause-operation g c = c.step_back.ensures.same ∙ c.requires.operation ∙ c.requires.kind

pub undo_fault-requires : goal.undo_fault-requires
undo_fault-requires g c =
    hands_last g.U.StepUndoer.stands g.U.StepUndoer.lasts c.args.program.now c.args.undoer.now c.args.self.now c.step_back.new.self c.requires.place (c.step_back.ensures.course c.args.program.now c.requires.place.course) c.step_back.ensures.facing c.step_back.ensures.place _ (subst (λ (name : FaultName). IsTaken c.step_back.new.self.here c.step_back.new.self.counts (record { step = Fault name c.product_error-letters.result; at = c.step_back.new.self.here.at + 1; counts = record c.step_back.new.self.counts { faults = c.step_back.new.self.counts.faults + 1 } })) (sym c.fault_name-name.ensures) c.product_error-letters.ensures)

pub returns : goal.returns
returns g c =
    goes_back g.U.StepUndoer.stands g.U.StepUndoer.lasts c.args.program.now c.args.undoer.now c.args.self.now c.step_back.new.self c.requires.place (c.step_back.ensures.course c.args.program.now c.requires.place.course) c.step_back.ensures.facing c.step_back.ensures.place _ (subst (λ (name : FaultName). IsTaken c.step_back.new.self.here c.step_back.new.self.counts (record { step = Fault name c.product_error-letters.result; at = c.step_back.new.self.here.at + 1; counts = record c.step_back.new.self.counts { faults = c.step_back.new.self.counts.faults + 1 } })) (sym c.fault_name-name.ensures) c.product_error-letters.ensures)
    c.undo_fault.new.self c.undo_fault.result c.step_back.ensures.same c.undo_fault.ensures
