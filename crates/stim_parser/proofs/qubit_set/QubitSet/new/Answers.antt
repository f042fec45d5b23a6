use Rattle.stim_parser.proofs.QubitSetLemmas.{is_named_none}
use Rattle.stim_parser.proofs.qubit_set.QubitSet.new.Goals as goal

pub returns : goal.returns
returns c = is_named_none 64
