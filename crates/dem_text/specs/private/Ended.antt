-- The end of a text whose lines were read: its model, or its refusal.
use Rattle.std.specs.Prelude.{◌≡◌, ◌<◌, ◌≤◌, ◌^◌, ℕ, None, List, ◌++◌, Result, Ok, Err, length}
use Rattle.cursor.specs.Places.{AreNested}
use Rattle.step_model.specs.declared.fault.Fault.{Fault}
use Rattle.stim_lexer.specs.Flat.{tree_of}
use Rattle.stim_lexer.specs.Lines.{lines_of}
use Rattle.stim_lexer.specs.Reached.{reached}
use Rattle.dem_text.specs.declared.front.End.{End}
use Rattle.dem_text.specs.declared.front.Front.{Front}
use Rattle.dem_text.specs.declared.standing.LineCounts.{LineCounts}
use Rattle.dem_text.specs.Judged.{Writes}
use Rattle.dem_text.specs.Models.{first_beyond, model_in, placed_lines}
use Rattle.dem_text.specs.Reached.{block_lines, most_lines}
use Rattle.dem_text.specs.Texts.{Item}
use Rattle.dem_text.specs.Trees.{Tree}
use Rattle.dem_text.specs.private.Counted.{AreCounts}
use Rattle.dem_text.specs.private.Making.{HasEnded, HasRead}

-- lines of a text were read up to its end, or to what ended the reading
pub record IsAtEnd {A : Type 0} (named : List ℕ) (places : ℕ) (text : List ℕ) (tree : Tree) (ended : End) (front : Front A) : Type 0 where
  pub lines : List (List ℕ)
  pub rest : List ℕ
  pub lines_are : lines_of text ≡ lines ++ lines_of rest
  pub read : HasRead named places lines tree front
  pub ends : HasEnded front.read rest ended

-- a text writes a tree, and a model with these counts
pub record IsModelRead (text : List ℕ) (tree : Tree) (counts : LineCounts) : Type 0 where
  pub writes : Writes text tree
  pub short : block_lines tree ≤ most_lines
  pub within : first_beyond (placed_lines tree) ≡ None
  pub counts_are : AreCounts (placed_lines tree) counts.detectors counts.observables counts.errors
  pub few : counts.errors < 2 ^ 64

abbrev pub IsVerdict : {A : Type 0} → Front A → End → Result LineCounts Fault → Type 0
IsVerdict front ended (Ok counts) =
    (named : List ℕ) (places : ℕ) (text : List ℕ) (tree : Tree) → IsAtEnd named places text tree ended front → IsModelRead text tree counts
IsVerdict front ended (Err fault) =
    (named : List ℕ) (places : ℕ) (text : List ℕ) (tree : Tree) → IsAtEnd named places text tree ended front → model_in text ≡ Err fault

-- a text writes some model with these counts
pub record HasCounts (text : List ℕ) (counts : LineCounts) : Type 0 where
  pub tree : Tree
  pub is : IsModelRead text tree counts

-- kept lines of a model that has these counts
pub record IsKeptModel (items : List Item) (counts : LineCounts) : Type 0 where
  pub nested : AreNested items
  pub within : first_beyond (placed_lines (tree_of items)) ≡ None
  pub counts_are : AreCounts (placed_lines (tree_of items)) counts.detectors counts.observables counts.errors
  pub few : length (reached (tree_of items)) < 2 ^ 64
