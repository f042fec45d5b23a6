-- Rows with changes.
use Rattle.std.proofs.Common.{◌≡◌, ℕ, zero, suc, ◌+◌, ◌<◌, ◌≤◌, Bool, false, not, List, [], ◌∷◌, length, map, get_or, set, take, inl, inr, refl, ap, ap₂, subst, sym, ◌∙◌, arith, length-set}
use Rattle.std.specs.Prelude.{All, Option, None, Some, replicate}
use Rattle.std.specs.List.{range_with_len}
use Rattle.std.proofs.Math.Nat.{suc_inj}
use Rattle.std.proofs.lemmas.Bool.{cases_lt}
use Rattle.std.proofs.lemmas.List.{get_or-replicate, length-replicate}
use Rattle.bit_rows.specs.Rows.{xor_rows}
use Rattle.pauli_word.specs.Parity.{exclusive_or}
use Rattle.step_model.specs.Targets.{is_listed}
use Rattle.record_targets.specs.private.Apart.{AreToggled, IsApart, IsChanged, IsUnchanged, with_apart, with_changes}
use Rattle.record_targets.specs.ListingSets.{toggled_each}
use Rattle.record_targets.specs.private.RecordSets.{opened_sets}
use Rattle.step_model.specs.TargetSets.{members, row_of_set, toggled}
use Rattle.record_targets.proofs.ApartLemmas.{all-with_apart, length-with_apart, row_of_members}
use Rattle.step_model.proofs.RowLemmas.{none_added, row_of_no_set, toggled_sum}

pub length-with_changes : (rows changes : List (List Bool)) → length (with_changes rows changes) ≡ length rows
length-with_changes rows [] = refl
length-with_changes [] (c ∷ changes) = refl
length-with_changes (row ∷ rows) (c ∷ changes) = ap suc (length-with_changes rows changes)

long_sum : (m : ℕ) (p q : List Bool) → length p ≡ m → length q ≡ m → length (xor_rows p q) ≡ m
long_sum m [] q first second = first
long_sum m (a ∷ p) [] first second = absurd (omega (arith, first, second))
long_sum zero (a ∷ p) (b ∷ q) first second = absurd (omega (arith, first))
long_sum (suc m) (a ∷ p) (b ∷ q) first second = ap suc (long_sum m p q (suc_inj first) (suc_inj second))

pub all-with_changes : (m : ℕ) (rows changes : List (List Bool)) → All (λ row. length row ≡ m) rows → All (λ row. length row ≡ m) changes → All (λ row. length row ≡ m) (with_changes rows changes)
all-with_changes m rows [] all of_changes k d lt = all k d lt
all-with_changes m [] (c ∷ changes) all of_changes k d lt = all k d lt
all-with_changes m (row ∷ rows) (c ∷ changes) all of_changes zero d lt =
    let long : length row ≡ m = all 0 [] (omega arith) in
    let changed : length c ≡ m = of_changes 0 [] (omega arith) in
    long_sum m row c long changed
all-with_changes m (row ∷ rows) (c ∷ changes) all of_changes (suc k) d lt =
    all-with_changes m rows changes (λ k d lt. all (suc k) d (omega (arith, lt))) (λ k d lt. of_changes (suc k) d (omega (arith, lt))) k d (omega (arith, lt))

row-with_changes : (rows changes : List (List Bool)) (r : ℕ) → r < length rows → r < length changes → get_or (with_changes rows changes) r [] ≡ xor_rows (get_or rows r []) (get_or changes r [])
row-with_changes rows [] r lt there = absurd (omega (arith, there))
row-with_changes [] (c ∷ changes) r lt there = absurd (omega (arith, lt))
row-with_changes (row ∷ rows) (c ∷ changes) zero lt there = refl
row-with_changes (row ∷ rows) (c ∷ changes) (suc r) lt there = row-with_changes rows changes r (omega (arith, lt)) (omega (arith, there))

set-with_changes : (rows changes : List (List Bool)) (r : ℕ) (change : List Bool) → r < length changes → with_changes rows (set changes r change) ≡ set (with_changes rows changes) r (xor_rows (get_or rows r []) change)
set-with_changes rows [] r change there = absurd (omega (arith, there))
set-with_changes [] (c ∷ changes) zero change there = refl
set-with_changes [] (c ∷ changes) (suc r) change there = refl
set-with_changes (row ∷ rows) (c ∷ changes) zero change there = refl
set-with_changes (row ∷ rows) (c ∷ changes) (suc r) change there = ap (λ (l : List (List Bool)). xor_rows row c ∷ l) (set-with_changes rows changes r change (omega (arith, there)))

sum_toggled : (ts : List ℕ) (row change : List Bool) → length row ≡ length change → xor_rows row (toggled_each ts change) ≡ toggled_each ts (xor_rows row change)
sum_toggled [] row change long = refl
sum_toggled (t ∷ ts) row change long =
    sum_toggled ts row (toggled t change) (omega (arith, long, length-set change t (not (get_or change t false))))
    ∙ ap (toggled_each ts) (sym (toggled_sum row change t long))

-- targets toggled in a change are toggled in the row
pub toggled-with_changes : (rows changes : List (List Bool)) (r m : ℕ) (ts : List ℕ) → r < length rows → r < length changes → All (λ row. length row ≡ m) rows → All (λ row. length row ≡ m) changes
    → with_changes rows (set changes r (toggled_each ts (get_or changes r []))) ≡ set (with_changes rows changes) r (toggled_each ts (get_or (with_changes rows changes) r []))
toggled-with_changes rows changes r m ts lt there all of_changes =
    set-with_changes rows changes r (toggled_each ts (get_or changes r [])) there
    ∙ ap (set (with_changes rows changes) r)
    (sum_toggled ts (get_or rows r []) (get_or changes r []) (all r [] lt ∙ sym (of_changes r [] there))
    ∙ ap (toggled_each ts) (sym (row-with_changes rows changes r lt there)))

without_changes : (m : ℕ) (rows : List (List Bool)) → All (λ row. length row ≡ m) rows → with_changes rows (replicate (length rows) (replicate m false)) ≡ rows
without_changes m [] all = refl
without_changes m (row ∷ rows) all =
    ap₂ (λ (x : List Bool) l. x ∷ l) (ap (xor_rows row) (sym (row_of_no_set m)) ∙ none_added row 0 m (all 0 [] (omega arith)))
    (without_changes m rows (λ k d lt. all (suc k) d (omega (arith, lt))))

pub take-with_changes : (n : ℕ) (rows old new : List (List Bool)) → length new ≡ length old → take n new ≡ take n old → take n (with_changes rows new) ≡ take n (with_changes rows old)
take-with_changes zero rows old new count same = refl
take-with_changes (suc n) rows [] [] count same = refl
take-with_changes (suc n) rows (c ∷ old) [] count same = absurd (omega (arith, count))
take-with_changes (suc n) rows [] (d ∷ new) count same = absurd (omega (arith, count))
take-with_changes (suc n) [] (c ∷ old) (d ∷ new) count same = refl
take-with_changes (suc n) (row ∷ rows) (c ∷ old) (d ∷ new) count same =
    let first : d ≡ c = cc in
    let others : take n new ≡ take n old = cc in
    ap₂ (λ (x : List Bool) l. xor_rows row x ∷ l) first (take-with_changes n rows old new (suc_inj count) others)

-- ---- where changes of one record are apart
pub as_long : (m r : ℕ) (rows changes whole : List (List Bool)) (apart : Option ℕ) (xs : List ℕ) → IsChanged m rows changes apart xs → with_changes rows (with_apart m changes apart xs) ≡ whole → r < length whole
    → (r < length rows) × (length (get_or whole r []) ≡ m)
as_long m r rows changes whole apart xs changed is low = (
  omega (arith, low, ap length is, length-with_changes rows (with_apart m changes apart xs)),
  subst (All (λ row. length row ≡ m)) is (all-with_changes m rows (with_apart m changes apart xs) changed.long (all-with_apart m changes apart xs changed.of_changes.long)) r [] low,
)

-- ---- a record of which nothing changed
no_changes : (rows changes : List (List Bool)) → length changes ≡ 0 → with_changes rows changes ≡ rows
no_changes rows [] none = refl
no_changes rows (c ∷ changes) none = absurd (omega (arith, none))

pub row_unchanged : (m r : ℕ) (rows changes whole : List (List Bool)) (apart : Option ℕ) (xs : List ℕ) → IsChanged m rows changes apart xs → with_changes rows (with_apart m changes apart xs) ≡ whole → r < length rows
    → IsUnchanged r changes apart → get_or rows r [] ≡ get_or whole r []
row_unchanged m r rows changes whole apart xs changed is low same =
    elim (cases_lt r (length changes)) as (λ _. get_or rows r [] ≡ get_or whole r []) [
      | inl lt ↦
          let row = get_or rows r [] in
          let blank : get_or (with_apart m changes apart xs) r [] ≡ row_of_set m [] =
          same lt m xs ∙ (ap (λ n. replicate n false) (changed.of_changes.long r [] lt) ∙ sym (row_of_no_set m)) in
          sym (none_added row 0 m (changed.long r [] low))
          ∙ (ap (xor_rows row) (sym blank)
          ∙ (sym (row-with_changes rows (with_apart m changes apart xs) r low (omega (arith, lt, length-with_apart m changes apart xs)))
          ∙ ap (λ (l : List (List Bool)). get_or l r []) is))
      | inr le ↦
          let none : length (with_apart m changes apart xs) ≡ 0 = length-with_apart m changes apart xs ∙ not_opened (length changes) (length rows) r le low changed.count in
          ap (λ (l : List (List Bool)). get_or l r []) (sym (no_changes rows (with_apart m changes apart xs) none) ∙ is)
    ]
  where
    not_opened : (n count r : ℕ) → n ≤ r → r < count → (0 < n → n ≡ count) → n ≡ 0
    not_opened zero count r le low opened = refl
    not_opened (suc n) count r le low opened = absurd (omega (arith, le, low, opened (omega arith)))

-- ---- changes that begin empty, where there are none yet
pub opened_apart : (m : ℕ) (rows changes : List (List Bool)) (apart : Option ℕ) (xs : List ℕ) → IsApart m changes apart xs → IsApart m (opened_sets (length rows) m changes) apart xs
opened_apart m rows [] None xs h =
    record {
      long = λ k d lt.
          let there : k < length rows = omega (arith, lt, length-replicate (length rows) (replicate m false)) in
          ap length (get_or-replicate (length rows) k (replicate m false) d there) ∙ length-replicate m false;
      within = tt;
      below = h.below;
    }
opened_apart m rows [] (Some r) xs h = absurd (let none : r < 0 = h.within in omega (arith, none))
opened_apart m rows (c ∷ changes) apart xs h = h

pub opened_count : (m : ℕ) (rows changes : List (List Bool)) → (0 < length changes → length changes ≡ length rows) → length (opened_sets (length rows) m changes) ≡ length rows
opened_count m rows [] count = length-replicate (length rows) (replicate m false)
opened_count m rows (c ∷ changes) count = count (omega arith)

pub opened_rows : (m : ℕ) (rows changes : List (List Bool)) (apart : Option ℕ) (xs : List ℕ) → All (λ row. length row ≡ m) rows → IsApart m changes apart xs
    → with_changes rows (with_apart m (opened_sets (length rows) m changes) apart xs) ≡ with_changes rows (with_apart m changes apart xs)
opened_rows m rows [] None xs all h = without_changes m rows all
opened_rows m rows [] (Some r) xs all h = absurd (let none : r < 0 = h.within in omega (arith, none))
opened_rows m rows (c ∷ changes) apart xs all h = refl

-- a list with the parities of two lists
row_of_parities : (m : ℕ) (xs ys zs : List ℕ) → ((t : ℕ) → is_listed zs t ≡ exclusive_or (is_listed xs t) (is_listed ys t)) → row_of_set m zs ≡ xor_rows (row_of_set m xs) (row_of_set m ys)
row_of_parities m xs ys zs same = each 0 m
  where
    each : (k m : ℕ) → map (is_listed zs) (range_with_len k m) ≡ xor_rows (map (is_listed xs) (range_with_len k m)) (map (is_listed ys) (range_with_len k m))
    each k zero = refl
    each k (suc m) = ap₂ (λ b l. b ∷ l) (same k) (each (k + 1) m)

-- a record's targets as the program has them, where those are toggled that changed
pub row_changed : (m r : ℕ) (rows changes whole : List (List Bool)) (listed changed into : List ℕ) → with_changes rows changes ≡ whole → r < length rows → r < length changes
    → All (λ row. length row ≡ m) rows → All (λ row. length row ≡ m) changes → row_of_set (length (get_or rows r [])) listed ≡ get_or rows r [] → changed ≡ members (get_or changes r [])
    → AreToggled listed changed into → row_of_set m into ≡ get_or whole r []
row_changed m r rows changes whole listed changed into is lt there all of_changes own own_changes toggled =
    row_of_parities m listed changed into toggled.parity
    ∙ (ap₂ xor_rows (ap (λ n. row_of_set n listed) (sym (all r [] lt)) ∙ own) (ap (row_of_set m) own_changes ∙ row_of_members m (get_or changes r []) (of_changes r [] there))
    ∙ (sym (row-with_changes rows changes r lt there) ∙ ap (λ (l : List (List Bool)). get_or l r []) is))

-- where the program has no targets of a record, its targets are those that changed
pub row_of_changes : (m r : ℕ) (rows changes whole : List (List Bool)) (listed : List ℕ) → with_changes rows changes ≡ whole → r < length rows → r < length changes
    → All (λ row. length row ≡ m) rows → All (λ row. length row ≡ m) changes → row_of_set (length (get_or rows r [])) listed ≡ get_or rows r [] → length listed ≡ 0
    → get_or changes r [] ≡ get_or whole r []
row_of_changes m r rows changes whole [] is lt there all of_changes own none =
    let change = get_or changes r [] in
    let toggled : AreToggled [] (members change) (members change) = record { parity = λ t. refl; below = λ n own changed. changed } in
    sym (row_of_members m change (of_changes r [] there))
    ∙ row_changed m r rows changes whole [] (members change) (members change) is lt there all of_changes own refl toggled
row_of_changes m r rows changes whole (x ∷ listed) is lt there all of_changes own none = absurd (omega (arith, none))
