use Rattle.std.proofs.Common.{◌≡◌, length, drop}
use Rattle.forward_sim.proofs.NumberLemmas.{set_all}
use Rattle.forward_sim.proofs.lists.mark_numbers.Given as goal

-- the numbers that are left lead from these marks to where all lead
abbrev pub invariant-loop-n : goal.invariant-loop-n
invariant-loop-n l =
    record {
      size : length l.marked ≡ length l.fn.marked;
      left : set_all (drop l.n-index l.numbers) l.marked ≡ set_all l.numbers l.fn.marked;
    }
