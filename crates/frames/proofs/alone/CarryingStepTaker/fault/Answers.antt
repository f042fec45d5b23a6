-- What is left behind a fault carries the frames on.
use Rattle.circuit_walk.specs.Steps.{listed}
use Rattle.circuit_walk.specs.declared.step.Step.TheVariants.{Fault}
use Rattle.frames.proofs.CarryingFrames.{carrying-on}
use Rattle.frames.proofs.alone.CarryingStepTaker.fault.Goals as goal

pub returns : goal.returns
returns g c begun k before here =
    let program = c.args.program.now.listing in
    let over = c.apply_fault-self in (
      before.0,
      carrying-on program c.well_formed-2.ensures begun.faults.now k _ _ _ before.1 (listed program.qubits (Fault c.args.name c.args.letters)) here 0 over.result over.new.frames over.ensures.goes over.ensures.still,
    )
