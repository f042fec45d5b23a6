-- There is room for the record, and what is left behind the collapse carries the frames on.
use Rattle.std.proofs.Common.{false, arith}
use Rattle.circuit_walk.specs.Letters.{letters_in}
use Rattle.circuit_walk.specs.Steps.{listed}
use Rattle.circuit_walk.specs.declared.step.Step.TheVariants.{CollapseWord}
use Rattle.step_model.specs.Listing.{Word, word_of_terms}
use Rattle.frames.proofs.CarryingFrames.{carrying-on, carrying-room}
use Rattle.frames.proofs.FollowedSteps.{recorded-count}
use Rattle.frames.proofs.alone.CarryingStepTaker.collapse_word.Goals as goal

pub collapse_word-requires-clause-room : goal.collapse_word-requires-clause-room
collapse_word-requires-clause-room g c =
    let n = c.requires.1 in
    let program = c.args.program.now.listing in
    omega (
      arith,
      carrying-room program c.well_formed-2.ensures n.0.faults.now n.1 _ _ _ n.2.1 (listed program.qubits (CollapseWord c.args.letters c.args.rec c.args._inverted c.args.flip)) n.3,
      recorded-count (Word (word_of_terms program.qubits (letters_in c.args.letters))) c.args.rec c.args._inverted c.args.flip,
    )

pub returns : goal.returns
returns g c begun k before here =
    let program = c.args.program.now.listing in
    let over = c.collapse_word in (
      before.0,
      carrying-on program c.well_formed-2.ensures begun.faults.now k _ _ _ before.1 (listed program.qubits (CollapseWord c.args.letters c.args.rec c.args._inverted c.args.flip)) here 0 false over.new.frames (over.ensures c.args._inverted) (λ is. cc),
    )
