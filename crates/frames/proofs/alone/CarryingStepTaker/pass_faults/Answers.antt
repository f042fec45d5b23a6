-- Faults that happen in no run leave the frames as they are.
use Rattle.std.proofs.Common.{◌+◌}
use Rattle.frames.proofs.CarryingFrames.{carrying-quiet}
use Rattle.frames.proofs.QuietFaults.{none_happens}
use Rattle.frames.proofs.alone.CarryingStepTaker.pass_faults.Goals as goal

pub returns-clause-passed : goal.returns-clause-passed
returns-clause-passed g c begun k before are = (
  before.0,
  carrying-quiet c.args.program.now.listing c.well_formed-2.ensures begun.faults.now k _ _ _ before.1 c.args.first c.args.count c.quiet_count.result c.quiet_count.ensures.few are (none_happens c.args.self.now.faults.now c.args.first (c.args.first + c.quiet_count.result) c.quiet_count.ensures.none),
)
