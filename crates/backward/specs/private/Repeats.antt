-- Turns of a block that repeat: the words at one place of a turn are those of the same place one turn later, but for the numbers of
-- detectors. (Gidney, Quantum 5, 497 (2021): the errors of a block's turns are found once.)
use Rattle.std.specs.Prelude.{◌≡◌, ℕ, ◌+◌, ◌-◌, ◌<◌, ◌≤◌, Bool, true, List, [], length, drop, None, slice_index_or}
use Rattle.step_model.specs.Listing.{Listing}
use Rattle.step_model.specs.Sensitivities.{latest_place}
use Rattle.step_model.specs.Targets.{target_at}
use Rattle.step_model.specs.TargetSets.{members}
use Rattle.circuit_walk.specs.Turns.{AreFedFrom}
use Rattle.record_targets.specs.ListingSets.{listing_set, sensitivity_before}
use Rattle.backward.specs.private.Passes.{records_before}
use Rattle.backward.specs.private.MovedTargets.{earlier_list, later_target}
use Rattle.backward.specs.declared.moved.Shift.{Shift}

-- feedback between two places depends on records that are made there, and there is none where lists are kept
pub record IsTurn (program : Listing) (place later : ℕ) (keeps : Bool) : Type 0 where
  pub own : AreFedFrom program.steps (records_before program place) place later
  pub none : keeps ≡ true → (low : ℕ) → AreFedFrom program.steps low place later

-- the words before a place are those before a later one, of the targets one turn later
abbrev pub AreMoved : Listing → Shift → ℕ → ℕ → Type 0
AreMoved program shift place later =
    (d : ℕ) → (sensitivity_before program (drop place program.steps) d).word ≡ (sensitivity_before program (drop later program.steps) (later_target shift d)).word

-- no target has a place from here on
abbrev pub NonePlaced : Listing → ℕ → Type 0
NonePlaced program place = (d : ℕ) → latest_place program.qubits (target_at program d) (drop place program.steps) ≡ None

-- the lists of the records before a place, from a number on, are those of the records before a later one, one turn earlier
abbrev pub AreRepeated : Listing → Shift → ℕ → ℕ → ℕ → Type 0
AreRepeated program shift low place later =
    (r : ℕ) → low ≤ r → r < records_before program place
    → members (listing_set program (drop place program.steps) r)
    ≡ earlier_list shift (members (listing_set program (drop later program.steps) (r + (records_before program later - records_before program place))))

-- lists as those of the records between two places, at the later one
pub record AreListed (program : Listing) (place later : ℕ) (lists : List (List ℕ)) : Type 0 where
  pub count : length lists ≡ records_before program later - records_before program place
  pub each : (r : ℕ) → records_before program place ≤ r → r < records_before program later
      → slice_index_or lists (r - records_before program place) [] ≡ members (listing_set program (drop later program.steps) r)
