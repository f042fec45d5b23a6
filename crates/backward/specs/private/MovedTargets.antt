-- Lists of targets a number of turns of a REPEAT block earlier, where each turn has as many detectors. The targets from one on
-- stay: those are observables, and detectors that the turns don't know. A detector whose later one stays is like that one in every
-- turn. (How they are compared is this project's own.)
use Rattle.std.specs.Prelude.{◌≡◌, ◌≤◌, ℕ, zero, suc, ◌+◌, ◌-◌, ◌*◌, nat_lt, ◌&&◌, not, min, Bool, false, List, [], ◌∷◌, ◌++◌, All, map, if◌then◌else◌, slice_index_or}
use Rattle.step_model.specs.TargetSets.{members}
use Rattle.backward.specs.declared.moved.Shift.{Shift}

-- the target one turn later: that `by` later where it is a detector; the number of targets, which no target has, where there is no
-- such detector
abbrev pub later_target : Shift → ℕ → ℕ
later_target s d = if nat_lt d s.staying then (if nat_lt (d + s.by) s.detectors then d + s.by else s.targets) else d

-- the same so many turns later
abbrev pub later_turns : Shift → ℕ → ℕ → ℕ
later_turns s zero d = d
later_turns s (suc n) d = later_turns s n (later_target s d)

-- whether a number is one of those from `low` on that are below `high`
abbrev pub is_within : ℕ → ℕ → ℕ → Bool
is_within low high t = not (nat_lt t low) && nat_lt t high

-- those of a list, moved to be `by` earlier
abbrev pub picked : ℕ → ℕ → ℕ → List ℕ → List ℕ
picked low high by [] = []
picked low high by (t ∷ ts) = if is_within low high t then (t - by) ∷ picked low high by ts else picked low high by ts

-- the end of the first detectors that stay: each has one before it that doesn't
abbrev pub window_end : Shift → ℕ
window_end s = min (s.staying + s.by) s.detectors

-- a list one turn earlier
abbrev pub earlier_list : Shift → List ℕ → List ℕ
earlier_list s ts = picked s.by (window_end s) s.by ts ++ picked s.staying s.targets 0 ts

-- the detectors before the first that stay, so many turns earlier and less
abbrev pub steps_before : Shift → ℕ → List ℕ → List ℕ
steps_before s zero ts = []
steps_before s (suc n) ts = picked (suc n * s.by) (window_end s) (suc n * s.by) ts ++ steps_before s n ts

-- a list so many turns earlier
abbrev pub grown_list : Shift → ℕ → List ℕ → List ℕ
grown_list s n ts =
    picked (n * s.by) s.staying (n * s.by) ts ++ steps_before s n (picked s.staying (window_end s) 0 ts) ++ picked s.staying s.targets 0 ts

-- the same of each of some lists
abbrev pub grown_lists : Shift → ℕ → List (List ℕ) → List (List ℕ)
grown_lists s n lists = map (grown_list s n) lists

-- targets of a list, those below `staying` moved to be `by` earlier; one with fewer before it goes away
abbrev pub moved_list : ℕ → ℕ → List ℕ → List ℕ
moved_list staying by [] = []
moved_list staying by (t ∷ ts) =
    if nat_lt t staying then (if nat_lt t by then moved_list staying by ts else (t - by) ∷ moved_list staying by ts) else t ∷ moved_list staying by ts

-- none of the first detectors that stay is in a list
abbrev pub IsClear : Shift → List ℕ → Type 0
IsClear s ts = All (λ t. is_within s.staying (window_end s) t ≡ false) ts

-- the numbers are those of a program's targets
pub record IsShiftOf (detectors targets : ℕ) (s : Shift) : Type 0 where
  pub detectors_is : s.detectors ≡ detectors
  pub targets_is : s.targets ≡ targets
  pub within : s.staying ≤ s.detectors
  pub few : s.detectors ≤ s.targets

-- the list of a record: that of its set where it is below a number, else the one that is kept for it
abbrev pub list_then : List (List Bool) → ℕ → List (List ℕ) → ℕ → List ℕ
list_then sets end kept r = if nat_lt r end then members (slice_index_or sets r []) else slice_index_or kept (r - end) []
