-- At the start all steps are left, and at the end none is.
use Rattle.std.proofs.Common.{refl}
use Rattle.frames.proofs.CarryingFrames.{carrying-start}
use Rattle.frames.proofs.alone.carry_alone.Goals as goal

pub take_all-requires : goal.take_all-requires
take_all-requires g c = (refl, carrying-start c.args.program.now.listing c.args.faults.now _ c.args.frames.now c.requires.qubits c.requires.room c.requires.start)
