use Rattle.dem_text.proofs.TreeLemmas.{each_tree_is_accepted}
use Rattle.dem_text.proofs.laws.texts_write_accepted_trees.Goals as goal

pub returns : goal.returns
returns c = each_tree_is_accepted
