use Rattle.std.proofs.Common.{length, true}
use Rattle.cursor.specs.Places.{left_of}
use Rattle.stim_lexer.specs.Flat.{tree_of}
use Rattle.dem_text.specs.Meanings.{error_lines}
use Rattle.dem_text.specs.Models.{placed_lines}
use Rattle.dem_text.proofs.BuildLemmas.{IsUnrolling, with_lines}
use Rattle.dem_text.proofs.OverKept.{IsOver, rest_at}
use Rattle.dem_text.proofs.reader.push_errors.Given as goal

abbrev pub invariant-loop-place : goal.invariant-loop-place
invariant-loop-place g l = record {
  over : IsOver l.kept l.cursor l.shift;
  unrolling :
      IsUnrolling l.counts.detectors l.counts.observables l.model (rest_at l.kept l.cursor l.shift)
      (with_lines l.fn.model (error_lines l.counts.detectors l.counts.observables (placed_lines (tree_of l.kept))));
}

abbrev pub decreases-loop-place : goal.decreases-loop-place
decreases-loop-place g l = length (left_of (λ i. true) l.kept l.cursor)
