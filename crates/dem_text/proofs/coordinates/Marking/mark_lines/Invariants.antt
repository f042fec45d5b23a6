use Rattle.std.proofs.Common.{◌≡◌, None, length, true}
use Rattle.cursor.specs.Places.{left_of}
use Rattle.stim_lexer.specs.Flat.{tree_of}
use Rattle.dem_text.specs.Models.{first_beyond, placed_lines}
use Rattle.dem_text.specs.private.Marked.{IsMarking}
use Rattle.dem_text.proofs.OverKept.{IsOver, rest_at}
use Rattle.dem_text.proofs.coordinates.Marking.mark_lines.Given as goal

abbrev pub invariant-loop-place : goal.invariant-loop-place
invariant-loop-place g l = record {
  over : IsOver l.kept l.cursor l.shift;
  marking : IsMarking (placed_lines (tree_of l.kept)) (rest_at l.kept l.cursor l.shift) l.self.lists l.self.marks.items (length l.fn.self.marks.items);
  near : first_beyond (rest_at l.kept l.cursor l.shift) ≡ None;
}

abbrev pub decreases-loop-place : goal.decreases-loop-place
decreases-loop-place g l = length (left_of (λ i. true) l.kept l.cursor)
