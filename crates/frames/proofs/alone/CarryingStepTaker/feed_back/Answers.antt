-- What is left behind feedback carries the frames on.
use Rattle.std.proofs.Common.{false}
use Rattle.circuit_walk.specs.Steps.{listed}
use Rattle.circuit_walk.specs.declared.step.Step.TheVariants.{Feedback}
use Rattle.frames.proofs.CarryingFrames.{carrying-on}
use Rattle.frames.proofs.alone.CarryingStepTaker.feed_back.Goals as goal

pub returns : goal.returns
returns g c begun k before here =
    let program = c.args.program.now.listing in
    let over = c.feed_back in (
      before.0,
      carrying-on program c.well_formed-2.ensures begun.faults.now k _ _ _ before.1 (listed program.qubits (Feedback c.args.letter c.args.q c.args.rec)) here 0 false over.new.frames (over.ensures c.args.self.now.faults.now) (λ is. cc),
    )
