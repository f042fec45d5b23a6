use Rattle.std.proofs.Common.{◌≡◌, [], length}
use Rattle.cursor.specs.Places.{StandsIn, before_of, left_of}
use Rattle.circuit_walk.specs.private.Held.{Holds}
use Rattle.circuit_walk.specs.private.Placing.{coordinates_from, is_placing, offset_at}
use Rattle.circuit_walk.proofs.coordinates.take_coordinates.Given as goal

abbrev pub invariant-loop-i : goal.invariant-loop-i
invariant-loop-i g l =
    record {
      held : Holds l.program l.text;
      place : StandsIn is_placing l.text.items.now.items l.cursor;
      offset_is : l.offset ≡ offset_at (before_of is_placing l.text.items.now.items l.cursor);
      stands : g.T.CoordinateTaker.stands l.program l.fn.taker
          (length (coordinates_from [] (before_of is_placing l.text.items.now.items l.cursor))) l.taker;
    }

abbrev pub decreases-loop-i : goal.decreases-loop-i
decreases-loop-i g l = length (left_of is_placing l.text.items.now.items l.cursor)
