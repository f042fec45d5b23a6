use Rattle.std.proofs.Common.{◌≡◌, drop, map}
use Rattle.dem_text.specs.private.Numbered.{numbers_of}
use Rattle.dem_text.specs.private.Tables.{most_detectors}
use Rattle.dem_text.specs.Shifts.{shifted_target}
use Rattle.dem_text.specs.private.Turned.{turned}
use Rattle.dem_text.proofs.fold.Fold.turn.Given as goal

abbrev pub invariant-loop-target : goal.invariant-loop-target
invariant-loop-target g l = record {
  bits : turned l.self.bits (numbers_of most_detectors (map (shifted_target l.shift) (drop l.target-index l.targets))) ≡ turned l.fn.self.bits (numbers_of most_detectors (map (shifted_target l.shift) l.targets));
  standing : l.self.standing ≡ l.fn.self.standing;
  later : l.self.later.now ≡ l.fn.self.later.now;
}
