use Rattle.std.proofs.Common.{rules, ◌/◌, ◌<◌, length}
use Rattle.stim_parser.proofs.QubitSetLemmas.{is_named_put}
use Rattle.stim_parser.proofs.qubit_set.QubitSet.insert.Goals as goal

pub returns : goal.returns
returns c =
    let within : c.args.qubit / 64 < length c.args.self.now.words = search rules in
    is_named_put c.args.self.now.words c.args.qubit within
