use Rattle.std.proofs.Common.{◌≡◌, ◌≤◌, ◌+◌, ◌-◌, length}
use Rattle.circuit_walk.specs.Letters.{AreSmall, letters_in}
use Rattle.fault_list.proofs.word.count_terms.Given as goal

-- those that are counted and those that are left are all
abbrev pub invariant-loop-count : goal.invariant-loop-count
invariant-loop-count l =
    record {
      small : AreSmall l.left;
      few : l.count ≤ 4096;
      all : l.count + length (letters_in l.left) ≡ length (letters_in l.terms);
    }

abbrev pub decreases-loop-count : goal.decreases-loop-count
decreases-loop-count l = 4096 - l.count
