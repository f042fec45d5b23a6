-- The lists of records, gone back over steps: a record's list stays from the collapse that makes it on, since what depends
-- on a record stands behind that.
use Rattle.std.proofs.Common.{◌≡◌, ℕ, zero, suc, ◌+◌, ◌<◌, ◌≤◌, Bool, true, false, ◌&&◌, List, [], ◌∷◌, ◌++◌, length, take, drop, get_or, set, Option, None, Some, inl, inr, refl, ap, subst, sym, ◌∙◌, arith, length-set, get_or-set_same, get_or-set_other}
use Rattle.std.specs.Prelude.{All, IfSome, filter, if◌then◌else◌}
use Rattle.std.specs.List.{range_with_len}
use Rattle.std.proofs.lemmas.Bool.{cases_eq, ltb-true}
use Rattle.std.proofs.lemmas.List.{append-nil, length-append, take-append-drop, take_more, drop_more, drop_all, get_or-append-add, get_or-take, length-drop}
use Rattle.std.proofs.lemmas.List.FromFn.{get_or-range_with_len, length-range_with_len}
use Rattle.pauli_word.specs.declared.letter.Letter.{Letter}
use Rattle.pauli_word.specs.Words.{anticommute}
use Rattle.step_model.specs.Listing.{Listing, ListedStep, One, Two, Collapse, Fault, Feedback, Measured, Recorded, step_records}
use Rattle.step_model.specs.Targets.{targets_of}
use Rattle.step_model.specs.WellFormed.{IsWellFormed, feeds_earlier, is_earlier, records_made}
use Rattle.backward.specs.private.Collapses.{members_at}
use Rattle.record_targets.specs.ListingSets.{toggled_each, listing_set, listing_sets, sensitivity_before}
use Rattle.backward.specs.private.Passes.{HoldsLists, IsStepAt, listing_at, records_before}
use Rattle.step_model.specs.TargetSets.{members}
use Rattle.record_targets.proofs.SetLemmas.{length-listing_sets, length-toggled_each, listing_sets-long, listing_sets-row}
use Rattle.backward.proofs.PassSets.{listing_set-fed, listing_set-other}

and_left : (a b : Bool) → (a && b) ≡ true → a ≡ true
and_left true b e = refl
and_left false b e = e

and_right : (a b : Bool) → (a && b) ≡ true → b ≡ true
and_right true b e = e
and_right false b e = cc

-- ---- a step leaves the lists of the records from here on
unfed : (program : Listing) (step : ListedStep) (steps : List ListedStep) (made r : ℕ) → is_earlier made step ≡ true → made ≤ r → listing_set program (step ∷ steps) r ≡ listing_set program steps r
unfed program (One gate q) steps made r e le = refl
unfed program (Two gate a b) steps made r e le = refl
unfed program (Collapse c recorded) steps made r e le = refl
unfed program (Fault f) steps made r e le = refl
unfed program (Feedback w s) steps made r e le = listing_set-other program w s r steps (λ same. omega (arith, same, le, ltb-true s made e))

unfed_front : (program : Listing) (front back : List ListedStep) (made r : ℕ) → feeds_earlier made (front ++ back) ≡ true → made + length (records_made front) ≤ r → listing_set program (front ++ back) r ≡ listing_set program back r
unfed_front program [] back made r e le = refl
unfed_front program (step ∷ front) back made r e le =
    unfed program step (front ++ back) made r (and_left (is_earlier made step) (feeds_earlier (made + length (step_records step)) (front ++ back)) e) (omega (arith, le))
    ∙ unfed_front program front back (made + length (step_records step)) r (and_right (is_earlier made step) (feeds_earlier (made + length (step_records step)) (front ++ back)) e)
    (omega (arith, le, length-append (step_records step) (records_made front)))

-- so the list of a record that is made from a place on is the same at the start as there
pub settled_there : (program : Listing) (place r : ℕ) → IsWellFormed program → records_before program place ≤ r → listing_set program program.steps r ≡ listing_set program (drop place program.steps) r
settled_there program place r fits le =
    ap (λ (steps : List ListedStep). listing_set program steps r) (sym (take-append-drop place program.steps))
    ∙ unfed_front program (take place program.steps) (drop place program.steps) 0 r
    (ap (feeds_earlier 0) (take-append-drop place program.steps) ∙ fits.feedback_earlier) (omega (arith, le))

-- ---- records are counted
records_made-append : (front back : List ListedStep) → records_made (front ++ back) ≡ records_made front ++ records_made back
records_made-append [] back = refl
records_made-append (step ∷ front) back = grind (arith, records_made-append front back)

pub step_within : (program : Listing) (place : ℕ) (step : ListedStep) → IsStepAt program place step → place < length program.steps
step_within program place step at =
    let some : length (drop place program.steps) ≡ suc (length (drop (place + 1) program.steps)) = ap length at in
    omega (arith, some, length-drop place program.steps)

step_there : (program : Listing) (place : ℕ) (step d : ListedStep) → IsStepAt program place step → get_or program.steps place d ≡ step
step_there program place step d at =
    let front : get_or program.steps place d ∷ drop (place + 1) program.steps ≡ step ∷ drop (place + 1) program.steps = sym (drop_more program.steps place d (step_within program place step at)) ∙ at in
    cc

pub records_before-more : (program : Listing) (place : ℕ) (step : ListedStep) → IsStepAt program place step → records_before program (place + 1) ≡ records_before program place + length (step_records step)
records_before-more program place step at =
    let d : ListedStep = Fault 0 in
    ap (λ (steps : List ListedStep). length (records_made steps)) (take_more program.steps place d (step_within program place step at) ∙ ap (λ s. take place program.steps ++ s ∷ []) (step_there program place step d at))
    ∙ (ap length (records_made-append (take place program.steps) (step ∷ []))
    ∙ (length-append (records_made (take place program.steps)) (step_records step ++ [])
    ∙ ap (λ (l : List ℕ). records_before program place + length l) (append-nil (step_records step))))

pub records_before-back : (program : Listing) (place : ℕ) (step : ListedStep) → IsStepAt program place step → records_before program place ≤ records_before program (place + 1)
records_before-back program place step at = omega (arith, records_before-more program place step at)

pub records_before-within : (program : Listing) (place : ℕ) → IsWellFormed program → records_before program place ≤ program.records
records_before-within program place fits =
    let whole : records_made program.steps ≡ records_made (take place program.steps) ++ records_made (drop place program.steps) =
    ap records_made (sym (take-append-drop place program.steps)) ∙ records_made-append (take place program.steps) (drop place program.steps) in
    omega (arith, ap length whole, length-append (records_made (take place program.steps)) (records_made (drop place program.steps)), ap length fits.records_in_order, length-range_with_len 0 program.records)

-- the number of the record that a collapse makes
pub record_there : (program : Listing) (place : ℕ) (c : Measured) (r : Recorded) → IsWellFormed program → IsStepAt program place (Collapse c (Some r)) → r.number ≡ records_before program place
record_there program place c r fits at =
    let front : List ℕ = records_made (take place program.steps) in
    let back : List ℕ = records_made (drop (place + 1) program.steps) in
    let whole : records_made program.steps ≡ front ++ r.number ∷ back =
    ap records_made (sym (take-append-drop place program.steps)) ∙ (records_made-append (take place program.steps) (drop place program.steps) ∙ ap (λ (l : List ListedStep). front ++ records_made l) at) in
    let within : length front < program.records =
    omega (arith, ap length whole, length-append front (r.number ∷ back), ap length fits.records_in_order, length-range_with_len 0 program.records) in
    let last : length front + 0 ≡ length front = omega arith in
    sym (get_or-append-add front (r.number ∷ back) 0 0)
    ∙ (ap (λ k. get_or (front ++ r.number ∷ back) k 0) last
    ∙ (ap (λ (l : List ℕ). get_or l (length front) 0) (sym whole ∙ fits.records_in_order)
    ∙ (get_or-range_with_len 0 program.records (length front) 0 within ∙ omega arith)))

-- ---- what is held, over a step
front_is : (program : Listing) (settled : Bool) (place r : ℕ) (step : ListedStep) → IsStepAt program place step → listing_set program (step ∷ drop (place + 1) program.steps) r ≡ listing_set program (drop (place + 1) program.steps) r
    → listing_set program (drop (if settled then 0 else place + 1) program.steps) r ≡ listing_set program (drop (if settled then 0 else place) program.steps) r
front_is program true place r step at same = refl
front_is program false place r step at same = sym same ∙ ap (λ (steps : List ListedStep). listing_set program steps r) (sym at)

-- over a step that feeds no record forward
pub holds-over : (program : Listing) (settled : Bool) (place known : ℕ) (sets : List (List Bool)) (step : ListedStep) → IsStepAt program place step
    → ((r : ℕ) → listing_set program (step ∷ drop (place + 1) program.steps) r ≡ listing_set program (drop (place + 1) program.steps) r) → HoldsLists program settled (place + 1) known sets → HoldsLists program settled place known sets
holds-over program settled place known sets step at same h =
    record {
      size = h.size;
      long = h.long;
      rows = λ r lt. h.rows r lt ∙ front_is program settled place r step at (same r);
      enough = omega (arith, h.enough, records_before-back program place step at);
      few = h.few;
    }

-- what a collapse finds listed there
pub listed_there : (program : Listing) (settled : Bool) (place known : ℕ) (sets : List (List Bool)) (c : Measured) (rec : Option ℕ) (r : Option Recorded) → IsWellFormed program → IsStepAt program place (Collapse c r)
    → IfSome rec (λ n. (recorded : Recorded) × (r ≡ Some recorded) × (recorded.number ≡ n)) → HoldsLists program settled (place + 1) known sets → members_at sets rec ≡ listing_at program (drop (place + 1) program.steps) rec
listed_there program settled place known sets c None r fits at is h = refl
listed_there program settled place known sets c (Some n) r fits at (recorded, whole, number) h =
    let there : IsStepAt program place (Collapse c (Some recorded)) = subst (λ o. IsStepAt program place (Collapse c o)) whole at in
    let first : n ≡ records_before program place = sym number ∙ record_there program place c recorded fits there in
    let within : n < known = omega (arith, first, h.enough, records_before-more program place (Collapse c (Some recorded)) there) in
    ap members (h.rows n within ∙ from settled first there)
  where
    from : (settled : Bool) → n ≡ records_before program place → IsStepAt program place (Collapse c (Some recorded)) → listing_set program (drop (if settled then 0 else place + 1) program.steps) n ≡ listing_set program (drop (place + 1) program.steps) n
    from false first there = refl
    from true first there = settled_there program place n fits (omega (arith, first)) ∙ ap (λ (steps : List ListedStep). listing_set program steps n) there

-- over feedback, until the lists are settled
module _ (program : Listing) (place known : ℕ) (sets new_sets : List (List Bool)) (w : List Letter) (r : ℕ) (at : IsStepAt program place (Feedback w r)) (within : r < program.records) where
  abbrev pub steps : List ListedStep
  steps = drop (place + 1) program.steps

  abbrev pub hit : List ℕ
  hit = filter (λ d. anticommute (sensitivity_before program steps d).word w) (range_with_len 0 (length (targets_of program)))

  abbrev pub fed : List Bool
  fed = toggled_each hit (get_or sets r [])

  pub holds-fed : new_sets ≡ set sets r fed → HoldsLists program false (place + 1) known sets → HoldsLists program false place known new_sets
  holds-fed e h =
      record {
        size = ap length e ∙ (length-set sets r fed ∙ h.size);
        long = subst (All (λ set. length set ≡ length (targets_of program))) (sym e) long;
        rows = λ s lt. ap (λ (rows : List (List Bool)). get_or rows s []) e ∙ (row s lt ∙ ap (λ (l : List ListedStep). listing_set program l s) (sym at));
        enough = omega (arith, h.enough, records_before-back program place (Feedback w r) at);
        few = h.few;
      }
    where
      here : r < length sets
      here = omega (arith, within, h.size)

      long : All (λ set. length set ≡ length (targets_of program)) (set sets r fed)
      long k d lt =
          elim (cases_eq k r) as (λ _. length (get_or (set sets r fed) k d) ≡ length (targets_of program)) [
            | inl same ↦
                ap (λ j. length (get_or (set sets r fed) j d)) same
                ∙ (ap length (get_or-set_same sets r fed d here) ∙ (length-toggled_each hit (get_or sets r []) ∙ h.long r [] here))
            | inr other ↦ ap length (get_or-set_other sets r k fed d other) ∙ h.long k d (omega (arith, lt, length-set sets r fed))
          ]

      row : (s : ℕ) → s < known → get_or (set sets r fed) s [] ≡ listing_set program (Feedback w r ∷ steps) s
      row s lt =
          elim (cases_eq s r) as (λ _. get_or (set sets r fed) s [] ≡ listing_set program (Feedback w r ∷ steps) s) [
            | inl same ↦
                ap (λ j. get_or (set sets r fed) j []) same
                ∙ (get_or-set_same sets r fed [] here
                ∙ (ap (toggled_each hit) (h.rows r (omega (arith, lt, same)))
                ∙ (listing_set-fed program w r steps ∙ ap (listing_set program (Feedback w r ∷ steps)) (sym same))))
            | inr other ↦ get_or-set_other sets r s fed [] other ∙ (h.rows s lt ∙ sym (listing_set-other program w r s steps other))
          ]

-- letting go of the lists from a number on
pub holds-first : (program : Listing) (settled : Bool) (place known records : ℕ) (sets new_sets : List (List Bool)) → take records new_sets ≡ take records sets → length new_sets ≡ length sets
    → ((n : ℕ) → All (λ set. length set ≡ n) sets → All (λ set. length set ≡ n) new_sets) → records_before program place ≤ records → records ≤ known → HoldsLists program settled place known sets → HoldsLists program settled place records new_sets
holds-first program settled place known records sets new_sets first size long enough within h =
    record {
      size = size ∙ h.size;
      long = long (length (targets_of program)) h.long;
      rows = λ r lt. sym (get_or-take records new_sets r [] lt) ∙ (ap (λ (rows : List (List Bool)). get_or rows r []) first ∙ (get_or-take records sets r [] lt ∙ h.rows r (omega (arith, lt, within))));
      enough = enough;
      few = omega (arith, within, h.few);
    }

-- ---- the ends
-- after the last step
pub holds-last : (program : Listing) (place : ℕ) → IsWellFormed program → place ≡ length program.steps → HoldsLists program false place program.records (listing_sets program [])
holds-last program place fits end =
    record {
      size = length-listing_sets program [];
      long = listing_sets-long program [];
      rows = λ r lt. listing_sets-row program [] r [] lt ∙ ap (λ (steps : List ListedStep). listing_set program steps r) (sym (drop_all place program.steps (omega (arith, end))));
      enough = records_before-within program place fits;
      few = omega arith;
    }

-- before the first step they are settled, for each place before which no more records are made than are known
pub settled-first : (program : Listing) (place known : ℕ) (sets : List (List Bool)) → records_before program place ≤ known → HoldsLists program false 0 known sets → HoldsLists program true place known sets
settled-first program place known sets enough h = record { size = h.size; long = h.long; rows = h.rows; enough = enough; few = h.few }

-- where they are settled, the place doesn't matter
pub settled-at : (program : Listing) (from place known : ℕ) (sets : List (List Bool)) → records_before program place ≤ known → HoldsLists program true from known sets → HoldsLists program true place known sets
settled-at program from place known sets enough h = record { size = h.size; long = h.long; rows = h.rows; enough = enough; few = h.few }

-- no more records are made before an earlier place
earlier_made : (a b : ℕ) (steps : List ListedStep) → a ≤ b → length (records_made (take a steps)) ≤ length (records_made (take b steps))
earlier_made zero b steps le = omega arith
earlier_made (suc a) zero steps le = absurd (omega (arith, le))
earlier_made (suc a) (suc b) [] le = omega arith
earlier_made (suc a) (suc b) (step ∷ steps) le =
    omega (arith, earlier_made a b steps (omega (arith, le)), length-append (step_records step) (records_made (take a steps)), length-append (step_records step) (records_made (take b steps)))

pub records_before-earlier : (program : Listing) (a b : ℕ) → a ≤ b → records_before program a ≤ records_before program b
records_before-earlier program a b le = earlier_made a b program.steps le
