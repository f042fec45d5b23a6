use Rattle.std.proofs.Common.{◌≡◌, map, take}
use Rattle.forward_sim.specs.Lists.{is_one}
use Rattle.forward_sim.proofs.lists.ones.Given as goal

-- a truth value for each byte so far
abbrev pub invariant-loop-byte : goal.invariant-loop-byte
invariant-loop-byte g l = l.ones.items ≡ map is_one (take l.byte-index l.text)
