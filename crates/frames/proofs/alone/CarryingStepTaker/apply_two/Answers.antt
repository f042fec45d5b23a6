-- What is left behind a gate carries the frames on.
use Rattle.circuit_walk.specs.Steps.{listed}
use Rattle.circuit_walk.specs.declared.step.Step.TheVariants.{Two}
use Rattle.frames.proofs.CarryingFrames.{carrying-on}
use Rattle.frames.proofs.alone.CarryingStepTaker.apply_two.Goals as goal

pub returns : goal.returns
returns g c begun k before here =
    let program = c.args.program.now.listing in
    let over = c.move_two in (
      before.0,
      carrying-on program c.well_formed-2.ensures begun.faults.now k _ _ _ before.1 (listed program.qubits (Two c.args.gate c.args.a c.args.b)) here 0 c.args.self.now.still over.new.frames (over.ensures.goes c.args.self.now.faults.now) over.ensures.still,
    )
