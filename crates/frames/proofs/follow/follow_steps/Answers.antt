-- At the start all steps are left, and at the end none is.
use Rattle.std.proofs.Common.{refl}
use Rattle.frames.proofs.FollowingFrames.{following-start}
use Rattle.frames.proofs.follow.follow_steps.Goals as goal

pub take_all-requires : goal.take_all-requires
take_all-requires g c =
    let r = c.requires in (
      refl,
      refl,
      following-start c.args.program.now.listing c.args.faults.now c.args.coins.now _ c.args.frames.now c.args.reference.now c.well_formed-2.ensures r.reference r.stands r.qubits r.room r.start,
    )
