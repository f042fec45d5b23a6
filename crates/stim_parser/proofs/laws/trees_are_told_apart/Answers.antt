use Rattle.stim_lexer.proofs.TreeLemmas.{same_tree}
use Rattle.stim_parser.proofs.laws.trees_are_told_apart.Goals as goal

pub returns : goal.returns
returns c = same_tree
