use Rattle.std.proofs.Common.{◌≡◌, length}
use Rattle.fault_list.specs.private.QubitNames.{AreNames}
use Rattle.fault_list.proofs.qubit_names.QubitNames.new.Given as goal

abbrev pub invariant-loop-qubit : goal.invariant-loop-qubit
invariant-loop-qubit l =
    record {
      room : length l.names ≡ 4096;
      named : AreNames l.qubit l.names;
    }
