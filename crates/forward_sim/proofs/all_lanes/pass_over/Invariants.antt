use Rattle.std.proofs.Common.{◌≡◌, ◌++◌, length, take, drop, map}
use Rattle.forward_sim.specs.Drawn.{after_words}
use Rattle.forward_sim.proofs.all_lanes.pass_over.Given as goal

-- the first generators have passed over the words
abbrev pub invariant-loop-lane : goal.invariant-loop-lane
invariant-loop-lane l = l.generators ≡ map (after_words (length l.fn.words)) (take l.lane l.fn.generators) ++ drop l.lane l.fn.generators
