use Rattle.std.proofs.Common.{◌≡◌, ◌++◌, drop, false}
use Rattle.std.specs.List.{list_any}
use Rattle.dem_text.specs.Models.{is_coordinate_beyond}
use Rattle.stim_parser.specs.Offsets.{moved}
use Rattle.dem_text.proofs.coordinates.move_all.Given as goal

abbrev pub invariant-loop-place : goal.invariant-loop-place
invariant-loop-place g l = record {
  front : l.found.items ++ moved (drop l.place l.offset) (drop l.place l.stated) ≡ moved l.offset l.stated;
  near : list_any is_coordinate_beyond (moved (drop l.place l.offset) (drop l.place l.stated)) ≡ false;
}
