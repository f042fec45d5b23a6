-- What is asked of the targets of a line of an error model; its arguments are judged as those of a circuit's instruction.
-- The limits: a detector's number is at most 999,999, an observable's at most 1,023; all other numbers and the
-- magnitudes of coordinates are below 10^18. (Stim's detector error model format, github.com/quantumlib/Stim,
-- doc/file_format_dem_detector_error_model.md; the limits are this project's.)
use Rattle.std.specs.Prelude.{ℕ, nat_lt, Bool, true, false, List, [], ◌∷◌}
use Rattle.std.specs.List.{list_any, list_all}
use Rattle.stim_parser.specs.Numbers.{is_number_beyond}
use Rattle.dem_text.specs.declared.target.TargetForm.{TargetForm}
use Rattle.dem_text.specs.declared.target.TargetForm.TheVariants.{Effects, Detectors, Observables, OneNumber}
use Rattle.dem_text.specs.declared.target.Target.{Target}
use Rattle.dem_text.specs.declared.target.Target.TheVariants.{Plain, Detector, Observable, Separator}

-- ---- forms of targets

-- whether a target is a detector
abbrev pub is_detector : Target → Bool
is_detector (Detector d) = true
is_detector target = false

-- whether a target is an observable
abbrev pub is_observable : Target → Bool
is_observable (Observable k) = true
is_observable target = false

-- a target that may stand in an error
abbrev pub is_effect : Target → Bool
is_effect (Plain n) = false
is_effect target = true

-- whether targets are one number
abbrev pub is_one_number : List Target → Bool
is_one_number (Plain n ∷ []) = true
is_one_number targets = false

-- targets of the form that a line takes, and as many as it takes
unfoldable pub are_of_form : TargetForm → List Target → Bool
are_of_form Effects targets = list_all is_effect targets
are_of_form Detectors targets = list_all is_detector targets
are_of_form Observables targets = list_all is_observable targets
are_of_form OneNumber targets = is_one_number targets

-- ---- limits of targets

-- the greatest number of a detector
abbrev pub greatest_detector : ℕ
greatest_detector = 999_999

-- the greatest number of an observable
abbrev pub greatest_observable : ℕ
greatest_observable = 1023

-- whether the number of a target is beyond its limit
abbrev pub is_target_beyond : Target → Bool
is_target_beyond (Plain n) = is_number_beyond n
is_target_beyond (Detector d) = nat_lt greatest_detector d
is_target_beyond (Observable k) = nat_lt greatest_observable k
is_target_beyond Separator = false

-- whether that of some target is
unfoldable pub has_target_beyond : List Target → Bool
has_target_beyond targets = list_any is_target_beyond targets
