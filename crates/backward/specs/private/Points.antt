-- Points left on the way back over a stretch of steps, from where other passes start; and what such a pass pushes.
-- (Gottesman, arXiv:quant-ph/9807006: words carried through a circuit. How a pass is cut is this project's own.)
use Rattle.std.specs.Prelude.{◌≡◌, ℕ, ◌<◌, ◌≤◌, ◌++◌, true, List, [], ◌∷◌, length, drop, All, Option}
use Rattle.std.specs.List.{AllPairs}
use Rattle.step_model.specs.Listing.{Listing}
use Rattle.step_model.specs.Targets.{targets_of}
use Rattle.circuit_walk.specs.Programs.{KeptProgram}
use Rattle.step_model.specs.Held.{Held}
use Rattle.step_model.specs.Pushed.{Pushes}
use Rattle.backward.specs.declared.found.Found.{Found}
use Rattle.backward.specs.declared.point.KeptPoint.{KeptPoint}
use Rattle.backward.specs.declared.point.Point.{Point}
use Rattle.backward.specs.declared.stretch.Parts.{Parts}
use Rattle.trackers.specs.Tracked.{Tracked, Fit, restored}
use Rattle.backward.specs.private.Passes.{HoldsLists, records_before, tracked_before}
use Rattle.backward.specs.private.Stretches.{text_between}

-- lists keep the words
pub record Keeps (tracked : Tracked) (lists : List (List ℕ)) : Type 0 where
  pub fit : Fit tracked lists
  pub words : restored lists tracked ≡ tracked

-- a tracker has the qubits of a program and a word for each of its targets
pub record IsFor (program : Listing) (tracked : Tracked) : Type 0 where
  pub qubits : tracked.qubits ≡ program.qubits
  pub words : length tracked.words ≡ length (targets_of program)

-- a point keeps the words at its place
pub record IsPointOf {A : Type 0} (program : KeptProgram) (point : KeptPoint A) : Type 0 where
  pub program_is : point.walk.program ≡ program
  pub within : point.walk.place ≤ length program.listing.steps
  pub words : Keeps (tracked_before program.listing (drop point.walk.place program.listing.steps)) point.lists

-- the place of the first of some points, where there is one
abbrev pub first_place : {A : Type 0} → ℕ → List (KeptPoint A) → ℕ
first_place from [] = from
first_place from (point ∷ points) = point.walk.place

-- points between `from` and a cut, the first of them at the cut, each before the one in front of it
pub record ArePoints {A : Type 0} (program : KeptProgram) (from cut : ℕ) (points : List (KeptPoint A)) : Type 0 where
  pub first : first_place from points ≡ cut
  pub each : All (IsPointOf program) points
  pub above : All (λ point. from < point.walk.place) points
  pub below : All (λ point. point.walk.place ≤ cut) points
  pub fall : AllPairs (λ early late. late.walk.place < early.walk.place) points

-- a point keeps the words of another, at its place
pub record IsKept {A T : Type 0} (tracked : T → Tracked) (at : Point A T) (point : KeptPoint A) : Type 0 where
  pub walk : point.walk ≡ at.walk
  pub words : Keeps (tracked at.tracker) point.lists

-- such a point was left behind those that there were
pub record IsLeft {A T : Type 0} (tracked : T → Tracked) (at : Point A T) (old new : List (KeptPoint A)) : Type 0 where
  pub point : KeptPoint A
  pub kept : IsKept tracked at point
  pub items : new ≡ old ++ point ∷ []

-- the text of the end of a stretch, and points where it is cut and before that; `known` records are enough for them
pub record AreParts {A : Type 0} (program : KeptProgram) (from to known : ℕ) (parts : Parts A) : Type 0 where
  pub cut : ℕ
  pub above : from ≤ cut
  pub below : cut ≤ to
  pub back : from < to → cut < to
  pub points : ArePoints program from cut parts.points.items
  pub text : parts.end ≡ text_between program.listing cut to
  pub enough : records_before program.listing cut ≤ known

-- the lists are settled, and kept as far as a place needs them
pub record IsReady {A : Type 0} (program : Listing) (place : ℕ) (found : Found A) : Type 0 where
  pub settled : found.settled ≡ true
  pub keeps : found.keeps ≡ true
  pub lists : HoldsLists program true place found.known found.lists

-- a beginning of some bytes was pushed
pub record PushesSome {S : Type 0} (taken : S → Option (List ℕ)) (failures : S → ℕ) (old new : S) (held_old held_new : Held) (bytes : List ℕ) : Type 0 where
  pub front : List ℕ
  pub rest : List ℕ
  pub whole : front ++ rest ≡ bytes
  pub pushes : Pushes taken failures old new held_old held_new front
