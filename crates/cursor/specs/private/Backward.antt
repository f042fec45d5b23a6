-- The way back to the chosen instruction before: each item that is passed leaves what is left as it is.
use Rattle.std.specs.Prelude.{⊤, ◌≡◌, ◌+◌, ◌-◌, ◌*◌, ◌<◌, ◌≤◌, ℕ, Bool, zero, suc, List, [], ◌∷◌, length}
use Rattle.stim_lexer.specs.Trees.{Item, Tree}
use Rattle.cursor.specs.Chosen.{chosen_in}
use Rattle.cursor.specs.declared.cursor.Cursor.{Cursor}
use Rattle.cursor.specs.declared.cursor.Level.{Level}
use Rattle.cursor.specs.Places.{IsPlace, left_of, levels_of, trees_at}

-- so many of these trees, the first ones, reach nothing that is chosen
abbrev pub ReachNothing : {I : Type 0} → (I → Bool) → List (Tree I) → ℕ → Type 0
ReachNothing w ts zero = ⊤
ReachNothing w [] (suc n) = ⊥
ReachNothing w (t ∷ ts) (suc n) = (chosen_in w t ≡ []) × ReachNothing w ts n

-- a place that is reached while a cursor looks for the chosen instruction before; so many innermost blocks have been entered from
-- behind, and nothing that is passed of their iterations reaches one
pub record IsReturning {I : Type 0} (w : I → Bool) (items : List (Item I)) (i : ℕ) (levels : List Level) (fresh : ℕ) : Type 0 where
  pub place : IsPlace items i levels
  pub untouched : ReachNothing w (trees_at items i) fresh
  pub few : fresh ≤ length levels

-- what falls with each item that is passed
abbrev pub rest_before : {I : Type 0} → List (Item I) → ℕ → List Level → ℕ → ℕ
rest_before items i levels fresh = (length levels - fresh) * (length items + 1) + i

-- a move back over one item
pub record PassesBack {I : Type 0} (w : I → Bool) (items : List (Item I)) (old : Cursor) (fresh : ℕ) (new : Cursor) (fresh_then : ℕ) : Type 0 where
  pub returning : IsReturning w items new.index (levels_of new) fresh_then
  pub same : left_of w items new ≡ left_of w items old
  pub nearer : rest_before items new.index (levels_of new) fresh_then < rest_before items old.index (levels_of old) fresh
