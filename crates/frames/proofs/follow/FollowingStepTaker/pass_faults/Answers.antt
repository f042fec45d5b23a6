-- Faults that happen in no run leave the frames and the reference run as they are.
use Rattle.std.proofs.Common.{◌+◌}
use Rattle.frames.proofs.FollowingFrames.{following-quiet}
use Rattle.frames.proofs.QuietFaults.{none_happens}
use Rattle.frames.proofs.follow.FollowingStepTaker.pass_faults.Goals as goal

pub returns-clause-passed : goal.returns-clause-passed
returns-clause-passed g c begun k before are = (
  before.0,
  before.1,
  following-quiet c.args.program.now.listing c.well_formed-2.ensures begun.faults.now begun.coins.now k _ _ _ _ _ _ before.2 c.args.first c.args.count c.quiet_count.result c.quiet_count.ensures.few are (none_happens c.args.self.now.faults.now c.args.first (c.args.first + c.quiet_count.result) c.quiet_count.ensures.none),
)
