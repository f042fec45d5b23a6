use Rattle.std.proofs.Common.{length}
use Rattle.cursor.specs.Places.{left_of}
use Rattle.circuit_walk.specs.private.Declaring.{IsDeclaring, is_declarer}
use Rattle.circuit_walk.proofs.DeclaringLemmas.{declared_before}
use Rattle.circuit_walk.proofs.declarations.take_declarations.Given as goal

abbrev pub invariant-loop-i : goal.invariant-loop-i
invariant-loop-i g l =
    record {
      passing : IsDeclaring l.program l.text l.cursor l.records;
      stands : g.T.DeclarationTaker.stands l.program l.fn.taker (declared_before l.program l.text l.cursor) l.taker;
    }

abbrev pub decreases-loop-i : goal.decreases-loop-i
decreases-loop-i g l = length (left_of is_declarer l.text.items.now.items l.cursor)
