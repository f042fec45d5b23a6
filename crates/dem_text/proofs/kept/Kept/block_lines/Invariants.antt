use Rattle.stim_lexer.specs.Flat.{tree_of}
use Rattle.stim_lexer.proofs.PassLemmas.{IsPassing}
use Rattle.dem_text.specs.Fitting.{Fits}
use Rattle.dem_text.specs.private.Unrolled.{counting, nothing_counted}
use Rattle.dem_text.proofs.kept.Kept.block_lines.Given as goal

abbrev pub invariant-loop-place : goal.invariant-loop-place
invariant-loop-place g l = IsPassing Fits counting (tree_of l.self) nothing_counted l.place l.counting.counts l.counting.blocks.items
