use Rattle.std.proofs.Common.{◌≡◌, length, take}
use Rattle.stim_parser.specs.Offsets.{shifted}
use Rattle.dem_text.proofs.standing.add_all.Given as goal

abbrev pub invariant-loop-place : goal.invariant-loop-place
invariant-loop-place l = record {
  added : l.offset ≡ shifted l.initial.offset (take l.place l.stated);
  long : length l.offset ≡ length l.initial.offset;
}
