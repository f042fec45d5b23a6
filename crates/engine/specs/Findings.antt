-- The lowest target of a program that has a place, detectors before observables. A target is random exactly where it
-- has one. (Stim's circuit format: detectors have to be deterministic in runs without faults.)
use Rattle.std.specs.Prelude.{ℕ, List, [], ◌∷◌, length, Option, None, Some}
use Rattle.std.specs.List.{range_with_len}
use Rattle.step_model.specs.declared.step.Place.{Place}
use Rattle.step_model.specs.Listing.{Listing}
use Rattle.step_model.specs.Sensitivities.{place_of}
use Rattle.step_model.specs.Targets.{targets_of}

-- a target with its place, where it has one, otherwise what is found later
abbrev pub placed_or : Option Place → ℕ → Option (ℕ × Place) → Option (ℕ × Place)
placed_or (Some place) d later = Some (d, place)
placed_or None d later = later

-- the first of these targets that has a place, with its place
abbrev pub first_placed : Listing → List ℕ → Option (ℕ × Place)
first_placed program [] = None
first_placed program (d ∷ targets) = placed_or (place_of program d) d (first_placed program targets)

-- the lowest target of a program that has a place, with its place
abbrev pub lowest_placed : Listing → Option (ℕ × Place)
lowest_placed program = first_placed program (range_with_len 0 (length (targets_of program)))
