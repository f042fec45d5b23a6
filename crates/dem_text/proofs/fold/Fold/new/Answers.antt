use Rattle.std.proofs.Common.{arith}
use Rattle.dem_text.proofs.LaterLemmas.{later-all}
use Rattle.dem_text.proofs.fold.Fold.new.Goals as goal

pub returns-clause-follows : goal.returns-clause-follows
returns-clause-follows g c =
    record { standing_is = c.start.ensures; bits_are = c.in_ok-zeros.ensures; later_is = λ near. later-all c.args.named.now c.requires }

pub returns-clause-sound : goal.returns-clause-sound
returns-clause-sound g c = rw c.start.ensures (record { room = record { detectors = omega arith; offset = λ k o below. absurd (omega (arith, below)) }; errors = omega arith })
