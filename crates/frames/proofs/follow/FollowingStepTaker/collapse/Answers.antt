-- The reference run goes over the collapse first, and the frames follow it: they are turned by what it keeps.
use Rattle.std.proofs.Common.{arith, refl, subst}
use Rattle.circuit_walk.specs.Steps.{listed, measured}
use Rattle.circuit_walk.specs.declared.step.Step.TheVariants.{Collapse}
use Rattle.frames.specs.private.Followed.{Turns, terms_of}
use Rattle.frames.proofs.FollowedSteps.{measured-letter, recorded-count}
use Rattle.frames.proofs.FollowingFrames.{following-collapse, following-next, following-room, following-said, following-turns}
use Rattle.frames.proofs.follow.FollowingStepTaker.collapse.Goals as goal

pub go_over-requires-clause-next : goal.go_over-requires-clause-next
go_over-requires-clause-next g c =
    let n = c.requires.1 in
    let program = c.args.program.now.listing in
    following-next program c.well_formed-2.ensures n.0.faults.now n.0.coins.now n.1 _ _ _ _ _ _ n.2.2 (listed program.qubits (Collapse c.args.letter c.args.qubit c.args.rec c.args.reset c.args.inverted c.args.flip)) n.3

pub replaced-requires : goal.replaced-requires
replaced-requires g c =
    let n = c.requires.1 in
    let program = c.args.program.now.listing in
    following-said program c.well_formed-2.ensures n.0.faults.now n.0.coins.now n.1 _ _ _ _ _ _ n.2.2 (listed program.qubits (Collapse c.args.letter c.args.qubit c.args.rec c.args.reset c.args.inverted c.args.flip)) n.3 c.go_over.new.self c.go_over.ensures.over refl

pub collapse-requires-clause-room : goal.collapse-requires-clause-room
collapse-requires-clause-room g c =
    let n = c.requires.1 in
    let program = c.args.program.now.listing in
    omega (
      arith,
      following-room program c.well_formed-2.ensures n.0.faults.now n.0.coins.now n.1 _ _ _ _ _ _ n.2.2 (listed program.qubits (Collapse c.args.letter c.args.qubit c.args.rec c.args.reset c.args.inverted c.args.flip)) n.3,
      recorded-count (measured program.qubits c.args.reset c.args.letter c.args.qubit) c.args.rec c.args.inverted c.args.flip,
    )

pub collapse-requires-clause-turns : goal.collapse-requires-clause-turns
collapse-requires-clause-turns g c =
    let n = c.requires.1 in
    let program = c.args.program.now.listing in
    subst (Turns program.qubits (terms_of c.replaced.result)) (measured-letter program.qubits c.args.reset c.args.letter c.args.qubit)
    (following-turns program c.well_formed-2.ensures n.0.faults.now n.0.coins.now n.1 _ _ _ _ _ _ n.2.2 (listed program.qubits (Collapse c.args.letter c.args.qubit c.args.rec c.args.reset c.args.inverted c.args.flip)) n.3 c.go_over.new.self c.go_over.ensures.over _ c.replaced.ensures)

pub returns : goal.returns
returns g c begun k before here =
    let program = c.args.program.now.listing in
    let gone = c.go_over.ensures in
    let over = c.collapse in (
      before.0,
      before.1,
      following-collapse program c.well_formed-2.ensures begun.faults.now begun.coins.now k _ _ _ _ _ _ before.2 (listed program.qubits (Collapse c.args.letter c.args.qubit c.args.rec c.args.reset c.args.inverted c.args.flip)) here c.go_over.new.self gone.over gone.reference gone.records
          refl c.word_at.result c.word_at.ensures _ c.replaced.ensures over.new.frames (over.ensures c.args.inverted),
    )
