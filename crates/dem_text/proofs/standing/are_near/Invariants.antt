use Rattle.std.proofs.Common.{◌≡◌, drop}
use Rattle.std.specs.List.{list_any}
use Rattle.dem_text.specs.Models.{is_coordinate_beyond}
use Rattle.stim_parser.specs.Offsets.{moved}
use Rattle.dem_text.proofs.standing.are_near.Given as goal

abbrev pub invariant-loop-place : goal.invariant-loop-place
invariant-loop-place l =
    list_any is_coordinate_beyond (moved (drop l.place l.offset) (drop l.place l.stated)) ≡ list_any is_coordinate_beyond (moved l.offset l.stated)
