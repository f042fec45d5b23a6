-- Detectors whose coordinates are held until their lines are pushed. (This project's own.)
use Rattle.std.specs.Prelude.{◌≡◌, ℕ, ◌+◌, ◌≤◌, ℤ, List, [], ◌++◌, Option, length, slice_index_or, take}
use Rattle.std.specs.List.{flat_map, range_with_len}
use Rattle.step_model.specs.Held.{Held}
use Rattle.step_model.specs.Pushed.{Pushes}
use Rattle.error_models.specs.ModelText.{detector_text}

-- the lines of so many detectors from one on, of which these are all coordinates
abbrev pub lines_text : List (List ℤ) → ℕ → ℕ → List ℕ
lines_text coordinates from count =
    flat_map (λ d. detector_text d (slice_index_or coordinates d [])) (range_with_len from count)

-- among all coordinates, the detectors from one on have these
pub record AreHeld (coordinates : List (List ℤ)) (from : ℕ) (held : List (List ℤ)) : Type 0 where
  pub within : from + length held ≤ length coordinates
  pub next : take from coordinates ++ held ≡ take (from + length held) coordinates

-- the lines of the detectors before one were pushed, and the coordinates of those from it on, up to this many detectors, are held
pub record HoldsDetectors {S : Type 0} (taken : S → Option (List ℕ)) (failures : S → ℕ) (old new : S) (out_old out_new : Held) (coordinates : List (List ℤ)) (from : ℕ) (lists : List (List ℤ)) (count : ℕ) : Type 0 where
  pub counted : from + length lists ≡ count
  pub held : AreHeld coordinates from lists
  pub pushes : Pushes taken failures old new out_old out_new (lines_text coordinates 0 from)
