-- Detectors marked by the number, from 1, of the last list of coordinates that they were given; 0 where they were given
-- none. (Stim's detector error model format, github.com/quantumlib/Stim,
-- doc/file_format_dem_detector_error_model.md; which of several coordinates count is this project's choice.)
use Rattle.std.specs.Prelude.{◌≡◌, ◌<◌, ◌≤◌, ℕ, zero, suc, ◌+◌, not, if◌then◌else◌, ℤ, List, [], ◌∷◌, ◌++◌, length, slice_index_or, slice_set}
use Rattle.stim_lexer.specs.Bytes.{is_empty}
use Rattle.dem_text.specs.declared.target.Target.{Target}
use Rattle.dem_text.specs.declared.target.Target.TheVariants.{Detector}
use Rattle.dem_text.specs.Meanings.{last_coordinates}
use Rattle.dem_text.specs.Shifts.{Placed}

-- the list that a mark stands for
abbrev pub list_numbered : List (List ℤ) → ℕ → List ℤ
list_numbered lists zero = []
list_numbered lists (suc n) = slice_index_or lists n []

abbrev pub marked_at : ℕ → List ℕ → Target → List ℕ
marked_at mark marks (Detector d) = slice_set marks d mark
marked_at mark marks target = marks

abbrev pub marked : ℕ → List ℕ → List Target → List ℕ
marked mark marks [] = marks
marked mark marks (target ∷ targets) = marked mark (marked_at mark marks target) targets

-- lists and marks after a line
pub record HasMarked (line : Placed) (lists : List (List ℤ)) (marks : List ℕ) (lists' : List (List ℤ)) (marks' : List ℕ) : Type 0 where
  pub lists_are : lists' ≡ (if not (is_empty line.coordinates) then lists ++ line.coordinates ∷ [] else lists)
  pub marks_are : marks' ≡ (if not (is_empty line.coordinates) then marked (length lists + 1) marks line.targets else marks)

-- the lists and marks of this many detectors so far, and the lines that are left
pub record IsMarking (all rest : List Placed) (lists : List (List ℤ)) (marks : List ℕ) (n : ℕ) : Type 0 where
  pub long : length marks ≡ n
  pub there : (d : ℕ) → d < n → slice_index_or marks d 0 ≤ length lists
  pub same : (d : ℕ) → d < n → last_coordinates d (list_numbered lists (slice_index_or marks d 0)) rest ≡ last_coordinates d [] all
