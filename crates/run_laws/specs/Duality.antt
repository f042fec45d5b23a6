-- What faults change in a target that has no place, whatever the coins: a set of faults changes it exactly where an odd
-- number of them hit it, so one fault more or less changes it exactly where that fault hits it. (Gottesman,
-- arXiv:quant-ph/9807006: words carried through a circuit.)
use Rattle.std.specs.Prelude.{◌≡◌, ◌<◌, ◌==◌, ℕ, Bool, false, ◌&&◌, List, [], ◌∷◌, length, None}
use Rattle.std.specs.List.{range_with_len}
use Rattle.pauli_word.specs.Parity.{exclusive_or}
use Rattle.step_model.specs.Hits.{is_hit}
use Rattle.step_model.specs.Listing.{Listing}
use Rattle.step_model.specs.Runs.{happens, records_of}
use Rattle.step_model.specs.Sensitivities.{place_of}
use Rattle.step_model.specs.Targets.{target_at, parity}
use Rattle.step_model.specs.WellFormed.{IsWellFormed}

-- whether an odd number of the faults with these numbers both happen and hit a target
abbrev pub odd_hits_among : Listing → ℕ → List Bool → List ℕ → Bool
odd_hits_among program d faults [] = false
odd_hits_among program d faults (f ∷ numbers) =
    exclusive_or (happens faults f && is_hit program d f) (odd_hits_among program d faults numbers)

-- the same of all faults of the program
abbrev pub has_odd_hits : Listing → ℕ → List Bool → Bool
has_odd_hits program d faults = odd_hits_among program d faults (range_with_len 0 (length program.faults))

-- a run with faults and one without differ in the target exactly where an odd number of those faults hit it
abbrev pub AddsUp : Listing → ℕ → Type 0
AddsUp program d =
    (faults first second : List Bool)
    → exclusive_or (parity (target_at program d) (records_of program faults first)) (parity (target_at program d) (records_of program [] second))
    ≡ has_odd_hits program d faults

-- two sets of faults are the same but for one fault, which happens in one of them alone
abbrev pub DifferInFault : ℕ → List Bool → List Bool → Type 0
DifferInFault f faults others = (g : ℕ) → happens others g ≡ exclusive_or (g == f) (happens faults g)

-- two runs whose faults differ in one differ in a target without a place exactly where that fault hits it
abbrev pub OneFaultLaw : Type 0
OneFaultLaw =
    (program : Listing) (d f : ℕ) (faults others first second : List Bool)
    → IsWellFormed program → place_of program d ≡ None → f < length program.faults → DifferInFault f faults others
    → exclusive_or (parity (target_at program d) (records_of program faults first)) (parity (target_at program d) (records_of program others second))
    ≡ is_hit program d f
