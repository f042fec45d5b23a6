use Rattle.std.proofs.Common.{◌≡◌, length, map}
use Rattle.dem_text.specs.Shifts.{shifted_target}
use Rattle.dem_text.specs.private.Lines.{read_targets}
use Rattle.dem_text.specs.private.Numbered.{numbers_of}
use Rattle.dem_text.specs.private.Tables.{most_detectors}
use Rattle.dem_text.specs.private.Turned.{turned}
use Rattle.dem_text.proofs.PartLemmas.{Turns}
use Rattle.dem_text.proofs.front.Front.turn_text.Given as goal

abbrev pub invariant-loop-rest : goal.invariant-loop-rest
invariant-loop-rest g l = record {
  turns : Turns most_detectors (shifted_target l.fn.self.fold.standing.shift.detectors) l.rest l.self.fold.bits (turned l.fn.self.fold.bits (numbers_of most_detectors (map (shifted_target l.fn.self.fold.standing.shift.detectors) (read_targets l.fn.text))));
  standing : l.self.fold.standing ≡ l.fn.self.fold.standing;
  later : l.self.fold.later.now ≡ l.fn.self.fold.later.now;
  read : l.self.read ≡ l.fn.self.read;
  unrolled : l.self.unrolled ≡ l.fn.self.unrolled;
}

abbrev pub decreases-loop-rest : goal.decreases-loop-rest
decreases-loop-rest g l = length l.rest
