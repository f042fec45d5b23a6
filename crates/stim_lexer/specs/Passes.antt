-- A pass over a text of lines and blocks: a state, which each instruction changes. At the end of a block the state after
-- all its turns is made from the state before the block and the state after its first turn. So a pass goes over each
-- instruction once, however often the blocks around it are repeated.
use Rattle.std.specs.Prelude.{◌≡◌, ◌<◌, ℕ, zero, suc, List, [], ◌∷◌, ◌++◌}
use Rattle.stim_lexer.specs.Trees.{Item, InstructionLine, BlockStart, BlockEnd, Tree, Nothing, Then, Block}
use Rattle.stim_lexer.specs.declared.blocks.OpenBlock.{OpenBlock}

pub record Pass (I S : Type 0) : Type 0 where
  pub step : I → S → S
  -- the number of turns, the state before the block, and the state after its first turn
  pub close : ℕ → S → S → S

-- the state after a tree
abbrev pub behind : {I S : Type 0} → Pass I S → Tree I → S → S
behind pass Nothing s = s
behind pass (Then i rest) s = behind pass rest (pass.step i s)
behind pass (Block line turns body rest) s = behind pass rest (pass.close turns s (behind pass body s))

abbrev pub opened : {S : Type 0} → ℕ → S → OpenBlock S
opened turns s = record { turns = turns; before = s }

-- an item can stand where this many blocks are open
abbrev pub CanStand : {I : Type 0} → (I → Type 0) → Item I → ℕ → Type 0
CanStand Fits (InstructionLine i) depth = Fits i
CanStand Fits (BlockStart line turns) depth = (0 < turns) × (depth < 32)
CanStand Fits BlockEnd depth = 0 < depth

-- items that stand where they may, with so many blocks open before them and none behind
abbrev pub AreWhole : {I : Type 0} → (I → Type 0) → List (Item I) → ℕ → Type 0
AreWhole Fits [] depth = depth ≡ 0
AreWhole Fits (InstructionLine i ∷ items) depth = Fits i × AreWhole Fits items depth
AreWhole Fits (BlockStart line turns ∷ items) depth = (0 < turns) × (depth < 32) × AreWhole Fits items (suc depth)
AreWhole Fits (BlockEnd ∷ items) zero = ⊥
AreWhole Fits (BlockEnd ∷ items) (suc depth) = AreWhole Fits items depth

-- the innermost block is closed, and its turns are over
pub record HasClosed {I S : Type 0} (pass : Pass I S) (s : S) (blocks : List (OpenBlock S)) (s' : S) (blocks' : List (OpenBlock S)) : Type 0 where
  pub last : OpenBlock S
  pub open_is : blocks ≡ blocks' ++ last ∷ []
  pub state_is : s' ≡ pass.close last.turns last.before s

-- what an item does to the state and to the open blocks, the outermost first
abbrev pub Passes : {I S : Type 0} → Pass I S → Item I → S → List (OpenBlock S) → S → List (OpenBlock S) → Type 0
Passes pass (InstructionLine i) s blocks s' blocks' = (s' ≡ pass.step i s) × (blocks' ≡ blocks)
Passes pass (BlockStart line turns) s blocks s' blocks' = (s' ≡ s) × (blocks' ≡ blocks ++ opened turns s ∷ [])
Passes pass BlockEnd s blocks s' blocks' = HasClosed pass s blocks s' blocks'
