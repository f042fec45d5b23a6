use Rattle.std.proofs.Common.{refl}
use Rattle.dem_text.proofs.PassedLemmas.{passed-both, passed-none, room-left}
use Rattle.dem_text.proofs.front.Front.take_lines.Goals as goal

pub loop-recent-init : goal.loop-recent-init
loop-recent-init g c = passed-none c.args.self.now _ c.args.text.now refl refl refl c.requires.ready

pub pass-requires-clause-room : goal.pass-requires-clause-room
pass-requires-clause-room g c = room-left _ _ _ _ c.loop-recent.invariant c.requires.room

pub loop-recent-preserved : goal.loop-recent-preserved
loop-recent-preserved g c =
    let found = rw c.in-Behind.is at c.in_ok-after.ensures in passed-both _ _ _ _ _ _ c.loop-recent.invariant found.0

pub returns-in-Ended : goal.returns-in-Ended
returns-in-Ended g c =
    let found = rw c.in-Ended.is at c.in_ok-after.ensures in record { passed = passed-both _ _ _ _ _ _ c.loop-recent.invariant found.0; ends = found.1 }
