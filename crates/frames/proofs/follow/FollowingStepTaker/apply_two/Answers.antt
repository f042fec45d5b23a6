-- The reference run goes over the gate first, and the frames follow it.
use Rattle.std.proofs.Common.{refl}
use Rattle.circuit_walk.specs.Steps.{listed}
use Rattle.circuit_walk.specs.declared.step.Step.TheVariants.{Two}
use Rattle.frames.proofs.FollowingFrames.{following-next, following-other}
use Rattle.frames.proofs.follow.FollowingStepTaker.apply_two.Goals as goal

pub go_over-requires-clause-next : goal.go_over-requires-clause-next
go_over-requires-clause-next g c =
    let n = c.requires.1 in
    let program = c.args.program.now.listing in
    following-next program c.well_formed-2.ensures n.0.faults.now n.0.coins.now n.1 _ _ _ _ _ _ n.2.2 (listed program.qubits (Two c.args.gate c.args.a c.args.b)) n.3

pub returns : goal.returns
returns g c begun k before here =
    let program = c.args.program.now.listing in
    let gone = c.go_over.ensures in
    let over = c.move_two in (
      before.0,
      before.1,
      following-other program c.well_formed-2.ensures begun.faults.now begun.coins.now k _ _ _ _ _ _ before.2 (listed program.qubits (Two c.args.gate c.args.a c.args.b)) here c.go_over.new.self gone.over gone.reference gone.records
          refl 0 c.args.self.now.still over.new.frames (over.ensures.goes c.args.self.now.faults.now) over.ensures.still,
    )
