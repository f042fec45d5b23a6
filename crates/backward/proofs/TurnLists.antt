-- The lists of a turn's records, as they are kept one turn later.
use Rattle.std.proofs.Common.{◌≡◌, ℕ, ◌+◌, ◌-◌, ◌<◌, ◌≤◌, nat_lt, Bool, true, false, List, [], length, drop, get_or, refl, ap, sym, ◌∙◌, arith}
use Rattle.std.specs.Prelude.{if◌then◌else◌}
use Rattle.std.proofs.lemmas.Bool.{ltb-true, ltb-false}
use Rattle.step_model.specs.Listing.{Listing}
use Rattle.step_model.specs.TargetSets.{members}
use Rattle.circuit_walk.specs.Turns.{AreFedFrom}
use Rattle.record_targets.specs.ListingSets.{listing_set}
use Rattle.backward.specs.private.MovedTargets.{earlier_list, list_then}
use Rattle.backward.specs.declared.moved.Shift.{Shift}
use Rattle.backward.specs.private.Passes.{HoldsLists, records_before}
use Rattle.backward.specs.private.Repeats.{AreListed, AreRepeated}
use Rattle.backward.proofs.PassRecords.{records_before-earlier}
use Rattle.backward.proofs.TurnRecords.{lists_stay}

module _ (program : Listing) (place later known : ℕ) (sets : List (List Bool)) (kept : List (List ℕ)) (s : Shift) (low : ℕ) (h : HoldsLists program false place known sets)
    (own : AreFedFrom program.steps (records_before program place) place later) (within : later ≤ length program.steps) (earlier : place ≤ later) (is : AreListed program place later kept) where
  abbrev pub end : ℕ
  end = records_before program place

  -- the list of a record one turn later
  then_is : (r : ℕ) → r < records_before program later → list_then sets end kept r ≡ members (listing_set program (drop later program.steps) r)
  then_is r lt = by_test (nat_lt r end) refl
    where
      by_test : (b : Bool) → nat_lt r end ≡ b → (if b then members (get_or sets r []) else get_or kept (r - end) []) ≡ members (listing_set program (drop later program.steps) r)
      by_test true e =
          let below : r < end = ltb-true r end e in
          let enough = h.enough in
          ap members (h.rows r (omega (arith, below, enough)) ∙ lists_stay program end place later r own within earlier below)
      by_test false e = is.each r (ltb-false r end e) lt

  pub repeated_there : ((r : ℕ) → low ≤ r → r < end → members (get_or sets r []) ≡ earlier_list s (list_then sets end kept (r + length kept))) → AreRepeated program s low place later
  repeated_there each r above below =
      let up = records_before-earlier program place later earlier in
      let count = is.count in
      let enough = h.enough in
      sym (ap members (h.rows r (omega (arith, below, enough))))
      ∙ (each r above below
      ∙ (ap (earlier_list s) (then_is (r + length kept) (omega (arith, below, count, up)))
      ∙ ap (λ n. earlier_list s (members (listing_set program (drop later program.steps) (r + n)))) count))
