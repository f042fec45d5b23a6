use Rattle.std.proofs.Common.{length-set, ◌∙◌, arith}
use Rattle.fault_list.proofs.NameLemmas.{named-more}
use Rattle.fault_list.proofs.qubit_names.QubitNames.new.Goals as goal

pub loop-qubit-preserved : goal.loop-qubit-preserved
loop-qubit-preserved c =
    record {
      room = length-set c.loop-qubit.names c.loop-qubit.qubit c.name_of.result ∙ c.loop-qubit.invariant.room;
      named =
          named-more c.loop-qubit.qubit c.loop-qubit.names c.name_of.result
          (omega (arith, c.loop-qubit-test.true, c.min-count.ensures, c.loop-qubit.invariant.room)) c.loop-qubit.invariant.named c.name_of.ensures;
    }
