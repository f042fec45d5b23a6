-- The items of an accepted text are those of one tree, which is accepted.
use Rattle.std.proofs.Common.{◌≡◌, ℕ, List, Ok}
use Rattle.stim_lexer.specs.Fitting.{IsWritten}
use Rattle.stim_lexer.proofs.TreeLemmas as trees
use Rattle.dem_text.specs.Fitting.{Fits, IsAccepted}
use Rattle.dem_text.specs.Texts.{Item, models, items_in}
use Rattle.dem_text.specs.Trees.{Tree}
use Rattle.dem_text.specs.Judged.{Writes}
use Rattle.dem_text.proofs.FitLemmas.{reading_fits}

-- the items of a text that is accepted are those of an error model
pub items_are_written : (text : List ℕ) (items : List Item) → items_in text ≡ Ok items → IsWritten Fits items
items_are_written = trees.items_are_written Fits models reading_fits

pub each_tree_is_accepted : (text : List ℕ) (tree : Tree) → Writes text tree → IsAccepted tree
each_tree_is_accepted = trees.each_tree_fits Fits models reading_fits
