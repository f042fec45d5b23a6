-- A tree kept flat, as its text writes it: a list of items. The tree is found again by reading them from the last to the
-- first: the end of a block starts a body, and the start of a block takes the body that was found. (Circuits and
-- error models alike: Stim's formats, "REPEAT" and "repeat".)
use Rattle.std.specs.Prelude.{List, [], ◌∷◌}
use Rattle.stim_lexer.specs.Trees.{Item, InstructionLine, BlockStart, BlockEnd, Tree, Nothing, Then, Block}

-- an item put before the trees that were read after it: the innermost one, and those that follow the ends of blocks
abbrev pub onto : {I : Type 0} → Item I → List (Tree I) → List (Tree I)
onto (InstructionLine i) [] = []
onto (InstructionLine i) (t ∷ ts) = Then i t ∷ ts
onto BlockEnd ts = Nothing ∷ ts
onto (BlockStart line turns) [] = []
onto (BlockStart line turns) (t ∷ []) = []
onto (BlockStart line turns) (t ∷ u ∷ ts) = Block line turns t u ∷ ts

-- the trees that items write, the innermost first
abbrev pub trees_of : {I : Type 0} → List (Item I) → List (Tree I)
trees_of [] = Nothing ∷ []
trees_of (item ∷ items) = onto item (trees_of items)

-- the first of these trees
abbrev pub first_tree : {I : Type 0} → List (Tree I) → Tree I
first_tree [] = Nothing
first_tree (t ∷ ts) = t

-- the tree that items write
abbrev pub tree_of : {I : Type 0} → List (Item I) → Tree I
tree_of items = first_tree (trees_of items)
