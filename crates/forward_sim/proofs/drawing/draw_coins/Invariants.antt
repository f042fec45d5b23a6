use Rattle.std.proofs.Common.{◌%◌, ◌==◌, length}
use Rattle.forward_sim.proofs.WordLemmas.{IsFilled}
use Rattle.forward_sim.proofs.drawing.draw_coins.Given as goal

-- a word was taken for each coin so far
abbrev pub invariant-loop-c : goal.invariant-loop-c
invariant-loop-c l = IsFilled (λ k w. w % 2 == 1) (length l.fn.coins) l.fn.rng l.c l.rng l.coins
