-- There is room for the record, and what is left behind the collapse carries the frames on.
use Rattle.std.proofs.Common.{false, arith}
use Rattle.circuit_walk.specs.Steps.{listed, measured}
use Rattle.circuit_walk.specs.declared.step.Step.TheVariants.{Collapse}
use Rattle.frames.proofs.CarryingFrames.{carrying-on, carrying-room}
use Rattle.frames.proofs.FollowedSteps.{recorded-count}
use Rattle.frames.proofs.alone.CarryingStepTaker.collapse.Goals as goal

pub collapse-requires-clause-room : goal.collapse-requires-clause-room
collapse-requires-clause-room g c =
    let n = c.requires.1 in
    let program = c.args.program.now.listing in
    omega (
      arith,
      carrying-room program c.well_formed-2.ensures n.0.faults.now n.1 _ _ _ n.2.1 (listed program.qubits (Collapse c.args.letter c.args.qubit c.args.rec c.args.reset c.args._inverted c.args.flip)) n.3,
      recorded-count (measured program.qubits c.args.reset c.args.letter c.args.qubit) c.args.rec c.args._inverted c.args.flip,
    )

pub returns : goal.returns
returns g c begun k before here =
    let program = c.args.program.now.listing in
    let over = c.collapse in (
      before.0,
      carrying-on program c.well_formed-2.ensures begun.faults.now k _ _ _ before.1 (listed program.qubits (Collapse c.args.letter c.args.qubit c.args.rec c.args.reset c.args._inverted c.args.flip)) here 0 false over.new.frames (over.ensures c.args._inverted) (λ is. cc),
    )
