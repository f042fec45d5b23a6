-- The reference run goes over the collapse first, and the frames follow it: they are turned by what it keeps.
use Rattle.std.proofs.Common.{arith, refl}
use Rattle.circuit_walk.specs.Letters.{letters_in}
use Rattle.circuit_walk.specs.Steps.{listed}
use Rattle.circuit_walk.specs.declared.step.Step.TheVariants.{CollapseWord}
use Rattle.step_model.specs.Listing.{Word, word_of_terms}
use Rattle.frames.proofs.FollowedSteps.{recorded-count}
use Rattle.frames.proofs.FollowingFrames.{following-collapse, following-next, following-room, following-said, following-turns}
use Rattle.frames.proofs.follow.FollowingStepTaker.collapse_word.Goals as goal

pub go_over-requires-clause-next : goal.go_over-requires-clause-next
go_over-requires-clause-next g c =
    let n = c.requires.1 in
    let program = c.args.program.now.listing in
    following-next program c.well_formed-2.ensures n.0.faults.now n.0.coins.now n.1 _ _ _ _ _ _ n.2.2 (listed program.qubits (CollapseWord c.args.letters c.args.rec c.args.inverted c.args.flip)) n.3

pub replaced-requires : goal.replaced-requires
replaced-requires g c =
    let n = c.requires.1 in
    let program = c.args.program.now.listing in
    following-said program c.well_formed-2.ensures n.0.faults.now n.0.coins.now n.1 _ _ _ _ _ _ n.2.2 (listed program.qubits (CollapseWord c.args.letters c.args.rec c.args.inverted c.args.flip)) n.3 c.go_over.new.self c.go_over.ensures.over refl

pub collapse_word-requires-clause-room : goal.collapse_word-requires-clause-room
collapse_word-requires-clause-room g c =
    let n = c.requires.1 in
    let program = c.args.program.now.listing in
    omega (
      arith,
      following-room program c.well_formed-2.ensures n.0.faults.now n.0.coins.now n.1 _ _ _ _ _ _ n.2.2 (listed program.qubits (CollapseWord c.args.letters c.args.rec c.args.inverted c.args.flip)) n.3,
      recorded-count (Word (word_of_terms program.qubits (letters_in c.args.letters))) c.args.rec c.args.inverted c.args.flip,
    )

pub collapse_word-requires-clause-turns : goal.collapse_word-requires-clause-turns
collapse_word-requires-clause-turns g c =
    let n = c.requires.1 in
    let program = c.args.program.now.listing in
    following-turns program c.well_formed-2.ensures n.0.faults.now n.0.coins.now n.1 _ _ _ _ _ _ n.2.2 (listed program.qubits (CollapseWord c.args.letters c.args.rec c.args.inverted c.args.flip)) n.3 c.go_over.new.self c.go_over.ensures.over _ c.replaced.ensures

pub returns : goal.returns
returns g c begun k before here =
    let program = c.args.program.now.listing in
    let gone = c.go_over.ensures in
    let over = c.collapse_word in (
      before.0,
      before.1,
      following-collapse program c.well_formed-2.ensures begun.faults.now begun.coins.now k _ _ _ _ _ _ before.2 (listed program.qubits (CollapseWord c.args.letters c.args.rec c.args.inverted c.args.flip)) here c.go_over.new.self gone.over gone.reference gone.records
          refl c.word_at.result c.word_at.ensures _ c.replaced.ensures over.new.frames (over.ensures c.args.inverted),
    )
