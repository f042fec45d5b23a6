-- What holds of the tree of an accepted text: each instruction has the arguments and targets that its format asks, each
-- block has at least one turn and no more than the limit, and blocks are nested no deeper than the limit. (The limits are
-- this project's.)
use Rattle.std.specs.Prelude.{⊤, ◌<◌, ◌≤◌, ℕ, suc, max, ◌≡◌, List}
use Rattle.stim_lexer.specs.Cut.{Cut}
use Rattle.stim_lexer.specs.Trees.{Tree, Nothing, Then, Block, Item, items_of, deepest}
use Rattle.stim_lexer.specs.Texts.{Format, Reading, Accepts, Opens, Closes, Refuses}
use Rattle.stim_lexer.specs.Flat.{tree_of}

-- the most turns of a block
abbrev pub most_turns : ℕ
most_turns = 999_999_999_999_999_999

-- how deep the blocks of a tree are nested
abbrev pub depth : {I : Type 0} → Tree I → ℕ
depth Nothing = 0
depth (Then instruction rest) = depth rest
depth (Block line turns body rest) = max (suc (depth body)) (depth rest)

abbrev pub AllFit : {I : Type 0} → (I → Type 0) → Tree I → Type 0
AllFit Fits Nothing = ⊤
AllFit Fits (Then instruction rest) = Fits instruction × AllFit Fits rest
AllFit Fits (Block line turns body rest) = (0 < turns) × AllFit Fits body × AllFit Fits rest

-- no block has too many turns
abbrev pub TurnsWithin : {I : Type 0} → Tree I → Type 0
TurnsWithin Nothing = ⊤
TurnsWithin (Then instruction rest) = TurnsWithin rest
TurnsWithin (Block line turns body rest) = (turns ≤ most_turns) × TurnsWithin body × TurnsWithin rest

pub record IsBuilt {I : Type 0} (Fits : I → Type 0) (tree : Tree I) : Type 0 where
  pub fit : AllFit Fits tree
  pub shallow : depth tree ≤ deepest
  pub turns_within : TurnsWithin tree

-- what a line says fits where this many blocks are open: an instruction fits, the turns of a block that is opened fit and it
-- is not too deep, and where a block is closed one is open
abbrev pub ReadingAccords : {I : Type 0} → (I → Type 0) → (ℕ → Type 0) → ℕ → Reading I → Type 0
ReadingAccords Fits TurnsFit depth (Accepts i) = Fits i
ReadingAccords Fits TurnsFit depth (Opens turns) = TurnsFit turns × (depth < 32)
ReadingAccords Fits TurnsFit depth Closes = 0 < depth
ReadingAccords Fits TurnsFit depth (Refuses c) = ⊤

-- the same where a block has to have a turn, and not too many
abbrev pub IsTurns : ℕ → Type 0
IsTurns turns = (0 < turns) × (turns ≤ most_turns)

abbrev pub ReadingFits : {I : Type 0} → (I → Type 0) → ℕ → Reading I → Type 0
ReadingFits Fits depth reading = ReadingAccords Fits IsTurns depth reading

-- whatever a line says in a format fits
abbrev pub LinesFit : {I : Type 0} → (I → Type 0) → Format I → Type 0
LinesFit Fits format = (depth number : ℕ) (cut : Cut) → ReadingFits Fits depth (format.reading_of depth number cut)

-- these are the items of the tree of an accepted text
pub record IsWritten {I : Type 0} (Fits : I → Type 0) (items : List (Item I)) : Type 0 where
  pub written : items_of (tree_of items) ≡ items
  pub fits : IsBuilt Fits (tree_of items)
