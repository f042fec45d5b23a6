-- What moving a cursor over whole iterations of a block does to what is before it, of the instructions that are chosen.
-- (Stim's circuit format, github.com/quantumlib/Stim, doc/file_format_stim_circuit.md, "REPEAT blocks".)
use Rattle.std.specs.Prelude.{◌≡◌, ℕ, Bool, List, ◌∷◌, ◌++◌}
use Rattle.stim_lexer.specs.Reached.{copies}
use Rattle.stim_lexer.specs.Trees.{Item}
use Rattle.cursor.specs.declared.cursor.Cursor.{Cursor}
use Rattle.cursor.specs.Places.{before_of, left_of}

-- a cursor goes back over so many iterations, where another is the same place one iteration later: before each of the three
-- the same instruction is the next one, and the instructions that are passed are those of one iteration, so many times
pub record GoesBackBy {I : Type 0} (w : I → Bool) (items : List (Item I)) (old later new : Cursor) (count : ℕ) : Type 0 where
  pub index : new.index ≡ old.index
  pub next : I
  pub iteration : List I
  pub before : before_of w items old ≡ before_of w items new ++ copies count iteration
  pub before_later : before_of w items later ≡ before_of w items old ++ iteration
  pub rest : List I
  pub rest_later : List I
  pub rest_new : List I
  pub left : left_of w items old ≡ next ∷ rest
  pub left_later : left_of w items later ≡ next ∷ rest_later
  pub left_new : left_of w items new ≡ next ∷ rest_new
