-- What a text of lines and blocks writes, as a tree: instructions, and blocks with the number of their turns and what
-- stands in them. A tree and its text say the same items in the same order, and so no two trees have one text. (Stim's
-- circuit format, github.com/quantumlib/Stim, doc/file_format_stim_circuit.md, "REPEAT blocks"; its detector error model
-- format, "repeat".)
use Rattle.std.specs.Prelude.{ℕ, List, [], ◌∷◌, ◌++◌}

-- an instruction, the start of a block with its line and turns, or the end of a block
pub data Item (I : Type 0) : Type 0 where
  InstructionLine : I → Item I
  BlockStart : ℕ → ℕ → Item I
  BlockEnd : Item I

-- what stands in a text or in a block, from the first on: nothing; an instruction and the rest; or a block, with its line,
-- its turns and its body, and the rest
pub data Tree (I : Type 0) : Type 0 where
  Nothing : Tree I
  Then : I → Tree I → Tree I
  Block : ℕ → ℕ → Tree I → Tree I → Tree I

-- the items that a tree says, in their order
abbrev pub items_of : {I : Type 0} → Tree I → List (Item I)
items_of Nothing = []
items_of (Then instruction rest) = InstructionLine instruction ∷ items_of rest
items_of (Block line turns body rest) = BlockStart line turns ∷ (items_of body ++ BlockEnd ∷ items_of rest)

-- the most blocks that may be open
abbrev pub deepest : ℕ
deepest = 32
