-- The way to the next chosen instruction: each item that is passed leaves what is left as it is.
use Rattle.std.specs.Prelude.{⊤, ◌≡◌, ◌+◌, ◌-◌, ◌*◌, ◌<◌, ◌≤◌, ℕ, Bool, zero, suc, List, ◌∷◌, ◌++◌, length}
use Rattle.stim_lexer.specs.Trees.{Item, Tree}
use Rattle.stim_lexer.specs.Reached.{copies}
use Rattle.cursor.specs.Chosen.{chosen_in}
use Rattle.cursor.specs.declared.cursor.Cursor.{Cursor}
use Rattle.cursor.specs.declared.cursor.Level.{Level}
use Rattle.cursor.specs.Places.{IsPlace, body_of, left_of, levels_of}

-- so many innermost blocks have been entered, and `here` is all that an iteration of the innermost reaches: no chosen
-- instruction of their iterations is passed
abbrev pub AreUntouched : {I : Type 0} → (I → Bool) → List (Item I) → List I → List (Tree I) → List Level → ℕ → Type 0
AreUntouched w items here us levels zero = ⊤
AreUntouched w items here (u ∷ us) (level ∷ levels) (suc fresh) =
    (here ≡ body_of w items level)
    × AreUntouched w items ((here ++ copies level.left (body_of w items level)) ++ chosen_in w u) us levels fresh
AreUntouched w items here us levels (suc fresh) = ⊥

-- a place that is reached while a cursor looks for the next chosen instruction
pub record IsPassing {I : Type 0} (w : I → Bool) (items : List (Item I)) (i : ℕ) (levels : List Level) (fresh : ℕ) : Type 0 where
  pub place : IsPlace items i levels
  pub untouched : AreUntouched w items (chosen_in w place.here) place.behind levels fresh
  pub few : fresh ≤ length levels

-- what falls with each item that is passed
abbrev pub ahead : {I : Type 0} → List (Item I) → ℕ → List Level → ℕ → ℕ
ahead items i levels fresh = (length levels - fresh) * (length items + 1) + (length items - i)

-- a move over one item
pub record Passes {I : Type 0} (w : I → Bool) (items : List (Item I)) (old : Cursor) (fresh : ℕ) (new : Cursor) (fresh_then : ℕ) : Type 0 where
  pub passing : IsPassing w items new.index (levels_of new) fresh_then
  pub same : left_of w items new ≡ left_of w items old
  pub nearer : ahead items new.index (levels_of new) fresh_then < ahead items old.index (levels_of old) fresh

-- a move to a chosen instruction, or to an end of the text
pub record GoesTo {I : Type 0} (w : I → Bool) (items : List (Item I)) (old new : Cursor) : Type 0 where
  pub place : IsPlace items new.index (levels_of new)
  pub same : left_of w items new ≡ left_of w items old
