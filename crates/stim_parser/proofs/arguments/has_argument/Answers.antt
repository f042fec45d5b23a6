use Rattle.stim_parser.proofs.ArgumentLemmas.{argument-told}
use Rattle.stim_parser.proofs.arguments.has_argument.Goals as goal

pub returns : goal.returns
returns c = argument-told c.args.text.now c.after_blanks.result.now c.is_empty.result c.after_blanks.ensures c.is_empty.ensures
