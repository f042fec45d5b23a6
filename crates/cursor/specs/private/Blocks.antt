-- Where the body of a block starts.
use Rattle.std.specs.Prelude.{◌≡◌, ℕ, suc, List, Some, slice_get}
use Rattle.stim_lexer.specs.Trees.{Item, BlockStart}

-- right before a body its block starts
pub record IsStarted {I : Type 0} (items : List (Item I)) (body : ℕ) : Type 0 where
  pub start : ℕ
  pub line : ℕ
  pub iterations : ℕ
  pub body_is : body ≡ suc start
  pub start_is : slice_get items start ≡ Some (BlockStart line iterations)
