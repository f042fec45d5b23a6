use Rattle.std.proofs.Common.{◌≡◌, false, take}
use Rattle.dem_text.proofs.error_line.are_alike.Given as goal

abbrev pub invariant-loop-place : goal.invariant-loop-place
invariant-loop-place l = l.differs ≡ false → take l.place l.text ≡ take l.place l.front
