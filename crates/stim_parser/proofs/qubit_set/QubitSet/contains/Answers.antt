use Rattle.stim_parser.proofs.QubitSetLemmas.{is_named_shift}
use Rattle.stim_parser.proofs.qubit_set.QubitSet.contains.Goals as goal

pub returns : goal.returns
returns c = is_named_shift c.args.self.now.words c.args.qubit
