use Rattle.std.proofs.Common.{◌≡◌, ◌≤◌, ◌+◌, ◌++◌, length, take, drop}
use Rattle.pauli_word.specs.declared.letter.Letter.TheVariants.{X, Z}
use Rattle.tableau.specs.Rows.{stabilizer_at}
use Rattle.forward_sim.specs.private.Kept.{clashing}
use Rattle.forward_sim.proofs.last_word.list_letters.Given as goal

-- each list so far, and the qubits that are left, are all
abbrev pub invariant-loop-qubit : goal.invariant-loop-qubit
invariant-loop-qubit g l =
    record {
      xs_size : length l.xs ≡ length l.fn.xs;
      zs_size : length l.zs ≡ length l.fn.zs;
      start : 1 ≤ l.xs_end;
      xs_few : l.xs_end ≤ 1 + l.qubit;
      zs_few : l.zs_end ≤ l.qubit;
      xs_listed : take l.xs_end l.xs ++ clashing Z l.qubit (drop l.qubit (stabilizer_at l.tableau l.row).letters) ≡ take 1 l.fn.xs ++ clashing Z 0 (stabilizer_at l.tableau l.row).letters;
      zs_listed : take l.zs_end l.zs ++ clashing X l.qubit (drop l.qubit (stabilizer_at l.tableau l.row).letters) ≡ clashing X 0 (stabilizer_at l.tableau l.row).letters;
    }
