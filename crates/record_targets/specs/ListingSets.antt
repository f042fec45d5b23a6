-- For each record the set of the targets that list it, as going back over the steps of a program finds it. (This project's own.)
use Rattle.std.specs.Prelude.{ℕ, Bool, List, [], ◌∷◌, map, length}
use Rattle.std.specs.List.{range_with_len}
use Rattle.step_model.specs.Listing.{Listing, ListedStep}
use Rattle.step_model.specs.Sensitivities.{Sensitivity, sensitivity}
use Rattle.step_model.specs.Targets.{is_listed, target_at, targets_of}
use Rattle.step_model.specs.TargetSets.{toggled}

-- the sensitivity of a target before these steps, which are the last
abbrev pub sensitivity_before : Listing → List ListedStep → ℕ → Sensitivity
sensitivity_before program steps d = sensitivity program.qubits (target_at program d) steps

-- for each target whether its sensitivity lists a record an odd number of times
abbrev pub listing_set : Listing → List ListedStep → ℕ → List Bool
listing_set program steps r =
    map (λ d. is_listed (sensitivity_before program steps d).records r) (range_with_len 0 (length (targets_of program)))

-- the same for each record
abbrev pub listing_sets : Listing → List ListedStep → List (List Bool)
listing_sets program steps = map (listing_set program steps) (range_with_len 0 program.records)

-- a set with each of some targets toggled
abbrev pub toggled_each : List ℕ → List Bool → List Bool
toggled_each [] set = set
toggled_each (t ∷ ts) set = toggled_each ts (toggled t set)
