use Rattle.std.proofs.Common.{◌≡◌, length, drop}
use Rattle.backward.specs.private.Collapses.{noted}
use Rattle.backward.proofs.places.note_each.Given as goal

abbrev pub invariant-loop-t : goal.invariant-loop-t
invariant-loop-t g l =
    record {
      long : length l.found.items ≡ length l.fn.found.items;
      left : noted l.value (drop l.t-index l.hit) l.found.items ≡ noted l.value l.hit l.fn.found.items;
    }
