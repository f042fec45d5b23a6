-- A gate leaves frames of I as they are.
use Rattle.frames.proofs.StillFrames.{still_one}
use Rattle.frames.proofs.steps.move_one.Goals as goal

pub returns-else-not-still-clause-goes : goal.returns-else-not-still-clause-goes
returns-else-not-still-clause-goes g c faults =
    still_one c.args.program.now.listing c.args.frames.now (c.requires.still c.if-not-still.false) c.args.gate faults c.args.q
