-- Detections: the parities of the flips.
use Rattle.std.proofs.Common.{◌≡◌, ℕ, Bool, true, false, List, [], ◌∷◌, map, refl, sym, ap, ap₂, ◌∙◌}
use Rattle.pauli_word.specs.Parity.{exclusive_or}
use Rattle.run_laws.specs.Shifts.{flipped_by}
use Rattle.run_laws.proofs.ShiftLists.{parity-joined}
use Rattle.step_model.specs.Listing.{Listing}
use Rattle.step_model.specs.Targets.{difference, differences, parities, parity, targets_of}

pub undone : (a b : Bool) → exclusive_or (exclusive_or a b) b ≡ a
undone false false = refl
undone false true = refl
undone true false = refl
undone true true = refl

each_detection : (flips values : List Bool) (targets : List (List ℕ))
    → map (λ named. parity named flips) targets ≡ differences (map (λ named. parity named (flipped_by flips values)) targets) (map (λ named. parity named values) targets)
each_detection flips values [] = refl
each_detection flips values (named ∷ targets) =
    ap₂ (λ b bs. b ∷ bs)
    (sym (ap (λ b. exclusive_or b (parity named values)) (parity-joined named flips values) ∙ undone (parity named flips) (parity named values)))
    (each_detection flips values targets)

pub detections : (program : Listing) (flips values : List Bool) → parities program flips ≡ difference program (flipped_by flips values) values
detections program flips values = each_detection flips values (targets_of program)
