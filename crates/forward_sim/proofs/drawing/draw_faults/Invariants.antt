use Rattle.std.proofs.Common.{length}
use Rattle.std.specs.Prelude.{nat_lt, slice_index_or}
use Rattle.forward_sim.proofs.WordLemmas.{IsFilled}
use Rattle.forward_sim.proofs.drawing.draw_faults.Given as goal

-- a word was taken for each fault so far
abbrev pub invariant-loop-f : goal.invariant-loop-f
invariant-loop-f l = IsFilled (λ k w. nat_lt w (slice_index_or l.bounds k 0)) (length l.bounds) l.fn.rng l.f l.rng l.faults
