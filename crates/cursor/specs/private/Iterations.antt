-- Two cursors at the same place, one iteration apart.
-- (Stim's circuit format, github.com/quantumlib/Stim, doc/file_format_stim_circuit.md, "REPEAT blocks".)
use Rattle.std.specs.Prelude.{◌≡◌, ◌+◌, ◌<◌, ◌^◌, suc, ℕ, Bool, List, [], ◌∷◌, Some, slice_get}
use Rattle.stim_lexer.specs.Trees.{Item, BlockStart}
use Rattle.cursor.specs.declared.cursor.Cursor.{Cursor}
use Rattle.cursor.specs.declared.cursor.Level.{Level}
use Rattle.cursor.specs.private.Marks.{IsChosen}

-- the iteration of a block so many before this one
abbrev pub further_back : Level → ℕ → Level
further_back level count = record { body = level.body; end = level.end; left = level.left + count }

-- a cursor in an outermost block and in no other, in the iteration behind so many
pub record IsIteration {I : Type 0} (items : List (Item I)) (at : Cursor) (count : ℕ) : Type 0 where
  pub level : Level
  pub start : ℕ
  pub line : ℕ
  pub iterations : ℕ
  pub open_is : at.open.items ≡ level ∷ []
  pub body_is : level.body ≡ suc start
  pub start_is : slice_get items start ≡ Some (BlockStart line iterations)
  pub count_is : level.left + count + 1 ≡ iterations
  pub few : iterations < 2 ^ 64

-- so is one right before a chosen instruction, and another at the same place one iteration later
pub record IsIterationBefore {I : Type 0} (w : I → Bool) (items : List (Item I)) (earlier later : Cursor) (count : ℕ) : Type 0 where
  pub here : IsIteration items earlier count
  pub next : Level
  pub index : later.index ≡ earlier.index
  pub chosen : IsChosen w (slice_get items earlier.index)
  pub next_open : later.open.items ≡ next ∷ []
  pub body : next.body ≡ here.level.body
  pub left : here.level.left ≡ next.left + 1
