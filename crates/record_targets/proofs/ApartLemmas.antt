-- The sets of records where that of one is apart, and lists of targets by parity.
use Rattle.std.proofs.Common.{◌≡◌, ℕ, zero, suc, ◌+◌, ◌<◌, ◌==◌, Bool, false, List, [], ◌∷◌, ◌++◌, length, get_or, set, take, drop, inl, inr, refl, ap, ap₂, subst, sym, ◌∙◌, arith}
use Rattle.std.specs.Prelude.{All, IfSome, Option, None, Some, replicate}
use Rattle.std.proofs.lemmas.Bool.{cases_lt}
use Rattle.std.proofs.lemmas.List.Elements.{All-append, All-drop, All-set}
use Rattle.std.proofs.lemmas.List.{length-set, set-set, get_or-set_same, take-set-le, ext_get_or, drop_more}
use Rattle.std.proofs.Math.Seq.{take-set-lt}
use Rattle.pauli_word.specs.Parity.{exclusive_or}
use Rattle.pauli_word.proofs.Parities.{exclusive_or_assoc, exclusive_or_comm, exclusive_or_left_comm, exclusive_or_middle, exclusive_or_self}
use Rattle.step_model.specs.Targets.{is_listed}
use Rattle.record_targets.specs.private.Apart.{with_apart, AreToggled, IsApart}
use Rattle.record_targets.specs.private.RecordSets.{AreAsLong}
use Rattle.record_targets.specs.ListingSets.{toggled_each}
use Rattle.step_model.specs.TargetSets.{members, row_of_set}
use Rattle.record_targets.proofs.LinkLemmas.{put_members, toggled_from_none}
use Rattle.record_targets.proofs.OrderLemmas.{listed_pushed}
use Rattle.record_targets.proofs.SetLemmas.{length-toggled_each, toggled_each_at}
use Rattle.step_model.proofs.RowLemmas.{length-row_of_set, get_or-row_of_set}

-- ---- the rows, with that of the record whose set is apart
pub length-with_apart : (m : ℕ) (rows : List (List Bool)) (apart : Option ℕ) (xs : List ℕ) → length (with_apart m rows apart xs) ≡ length rows
length-with_apart m rows None xs = refl
length-with_apart m rows (Some r) xs = length-set rows r (row_of_set m xs)

pub take-with_apart : (m n : ℕ) (rows new_rows : List (List Bool)) (apart : Option ℕ) (xs : List ℕ) → take n new_rows ≡ take n rows → take n (with_apart m new_rows apart xs) ≡ take n (with_apart m rows apart xs)
take-with_apart m n rows new_rows None xs same = same
take-with_apart m n rows new_rows (Some r) xs same =
    elim (cases_lt r n) as (λ _. take n (set new_rows r (row_of_set m xs)) ≡ take n (set rows r (row_of_set m xs))) [
      | inl less ↦
          take-set-lt n new_rows r (row_of_set m xs) less
          ∙ (ap (λ (l : List (List Bool)). set l r (row_of_set m xs)) same ∙ sym (take-set-lt n rows r (row_of_set m xs) less))
      | inr le ↦
          take-set-le n new_rows r (row_of_set m xs) le
          ∙ (same ∙ sym (take-set-le n rows r (row_of_set m xs) le))
    ]

pub all-with_apart : (m : ℕ) (rows : List (List Bool)) (apart : Option ℕ) (xs : List ℕ) → All (λ row. length row ≡ m) rows → All (λ row. length row ≡ m) (with_apart m rows apart xs)
all-with_apart m rows None xs all = all
all-with_apart m rows (Some r) xs all = All-set (λ row. length row ≡ m) rows r (row_of_set m xs) (length-row_of_set m xs) all

pub same_lengths : (m n : ℕ) (old new : List (List Bool)) → length new ≡ length old → All (λ row. length row ≡ m) old → All (λ row. length row ≡ m) new → All (λ row. length row ≡ n) old → All (λ row. length row ≡ n) new
same_lengths m n old new count of_old of_new all k d lt =
    let within : k < length old = omega (arith, lt, count) in
    of_new k d lt ∙ (sym (of_old k d within) ∙ all k d within)

within_as_many : (apart : Option ℕ) (rows new_rows : List (List Bool)) → length new_rows ≡ length rows → IfSome apart (λ r. r < length rows) → IfSome apart (λ r. r < length new_rows)
within_as_many None rows new_rows count h = tt
within_as_many (Some r) rows new_rows count h = omega (arith, h, count)

-- a set is apart from other rows that are as long
pub apart_as_long : (m : ℕ) (rows new_rows : List (List Bool)) (apart : Option ℕ) (set : List ℕ) → AreAsLong rows new_rows → IsApart m rows apart set → IsApart m new_rows apart set
apart_as_long m rows new_rows apart set as_long is =
    record { long = as_long.long m is.long; within = within_as_many apart rows new_rows as_long.len is.within; below = is.below }

-- the members of a row stand for it
pub row_of_members : (m : ℕ) (row : List Bool) → length row ≡ m → row_of_set m (members row) ≡ row
row_of_members m row long =
    sym (toggled_from_none m (members row)) ∙ put_members row (members row) (replicate m false) refl (ap (λ n. replicate n false) (sym long))

-- a set that is put back where another was
pub put_back_set : (m r : ℕ) (rows empty new : List (List Bool)) (xs : List ℕ) → r < length rows → empty ≡ set rows r (replicate m false) → new ≡ set empty r (toggled_each xs (get_or empty r [])) → new ≡ set rows r (row_of_set m xs)
put_back_set m r rows empty new xs within is then =
    then
    ∙ (ap₂ (λ (l : List (List Bool)) bits. set l r bits) is
    (ap (toggled_each xs) (ap (λ (l : List (List Bool)). get_or l r []) is ∙ get_or-set_same rows r (replicate m false) [] within) ∙ toggled_from_none m xs)
    ∙ set-set rows r (replicate m false) (row_of_set m xs))

-- the set that is apart, with some targets toggled
pub toggled_apart : (m r : ℕ) (rows old : List (List Bool)) (targets xs toggled : List ℕ) → r < length rows → set rows r (row_of_set m xs) ≡ old → AreToggled targets xs toggled
    → set rows r (row_of_set m toggled) ≡ set old r (toggled_each targets (get_or old r []))
toggled_apart m r rows old targets xs toggled within is parities =
    ap (set rows r) row
    ∙ (sym (set-set rows r (row_of_set m xs) (toggled_each targets (row_of_set m xs)))
    ∙ ap₂ (λ (l : List (List Bool)) bits. set l r bits) is
    (ap (toggled_each targets) (sym (get_or-set_same rows r (row_of_set m xs) [] within) ∙ ap (λ (l : List (List Bool)). get_or l r []) is)))
  where
    row : row_of_set m toggled ≡ toggled_each targets (row_of_set m xs)
    row =
        ext_get_or false (row_of_set m toggled) (toggled_each targets (row_of_set m xs))
        (length-row_of_set m toggled ∙ (sym (length-row_of_set m xs) ∙ sym (length-toggled_each targets (row_of_set m xs))))
        (λ k lt.
        let low : k < m = omega (arith, lt, length-row_of_set m toggled) in
        get_or-row_of_set m toggled k low
        ∙ (parities.parity k
        ∙ (ap (exclusive_or (is_listed targets k)) (sym (get_or-row_of_set m xs k low))
        ∙ sym (toggled_each_at targets k (row_of_set m xs) (omega (arith, low, length-row_of_set m xs))))))

-- ---- two lists merged, where equal targets cancel
pub listed_both : (xs ys : List ℕ) (t : ℕ) → is_listed (xs ++ ys) t ≡ exclusive_or (is_listed xs t) (is_listed ys t)
listed_both [] ys t = refl
listed_both (x ∷ xs) ys t = ap (exclusive_or (x == t)) (listed_both xs ys t) ∙ sym (exclusive_or_assoc (x == t) (is_listed xs t) (is_listed ys t))

first_moves : (x into set targets : Bool) → exclusive_or (exclusive_or x into) (exclusive_or targets set) ≡ exclusive_or into (exclusive_or targets (exclusive_or x set))
first_moves x into set targets =
    ap (λ a. exclusive_or a (exclusive_or targets set)) (exclusive_or_comm x into)
    ∙ (exclusive_or_assoc into x (exclusive_or targets set) ∙ ap (exclusive_or into) (exclusive_or_left_comm x targets set))

second_moves : (x into set targets : Bool) → exclusive_or (exclusive_or x into) (exclusive_or targets set) ≡ exclusive_or into (exclusive_or (exclusive_or x targets) set)
second_moves x into set targets =
    first_moves x into set targets ∙ ap (exclusive_or into) (exclusive_or_left_comm targets x set ∙ sym (exclusive_or_assoc x targets set))

both_go : (x into set targets : Bool) → exclusive_or into (exclusive_or targets set) ≡ exclusive_or into (exclusive_or (exclusive_or x targets) (exclusive_or x set))
both_go x into set targets =
    ap (exclusive_or into) (sym (exclusive_or_middle x targets x set ∙ ap (λ a. exclusive_or a (exclusive_or targets set)) (exclusive_or_self x)))

-- what is merged so far, with what is left of both
abbrev pub merged : List ℕ → List ℕ → List ℕ → ℕ → Bool
merged into targets set t = exclusive_or (is_listed into t) (exclusive_or (is_listed targets t) (is_listed set t))

pub set_goes : (into new set targets : List ℕ) (i t : ℕ) → i < length set → new ≡ into ++ get_or set i 0 ∷ [] → merged new targets (drop (i + 1) set) t ≡ merged into targets (drop i set) t
set_goes into new xs targets i t within is =
    ap₂ (λ a b. exclusive_or a (exclusive_or (is_listed targets t) b)) (ap (λ l. is_listed l t) is ∙ listed_pushed into (get_or xs i 0) t) refl
    ∙ (first_moves (get_or xs i 0 == t) (is_listed into t) (is_listed (drop (i + 1) xs) t) (is_listed targets t)
    ∙ ap (λ l. merged into targets l t) (sym (drop_more xs i 0 within)))

pub target_goes : (into new set targets : List ℕ) (j t : ℕ) → j < length targets → new ≡ into ++ get_or targets j 0 ∷ [] → merged new (drop (j + 1) targets) set t ≡ merged into (drop j targets) set t
target_goes into new xs targets j t within is =
    ap (λ a. exclusive_or a (exclusive_or (is_listed (drop (j + 1) targets) t) (is_listed xs t))) (ap (λ l. is_listed l t) is ∙ listed_pushed into (get_or targets j 0) t)
    ∙ (second_moves (get_or targets j 0 == t) (is_listed into t) (is_listed xs t) (is_listed (drop (j + 1) targets) t)
    ∙ ap (λ l. merged into l xs t) (sym (drop_more targets j 0 within)))

pub both_cancel : (into set targets : List ℕ) (i j t : ℕ) → i < length set → j < length targets → get_or set i 0 ≡ get_or targets j 0
    → merged into (drop (j + 1) targets) (drop (i + 1) set) t ≡ merged into (drop j targets) (drop i set) t
both_cancel into xs targets i j t first second same =
    both_go (get_or xs i 0 == t) (is_listed into t) (is_listed (drop (i + 1) xs) t) (is_listed (drop (j + 1) targets) t)
    ∙ (ap (λ x. exclusive_or (is_listed into t) (exclusive_or (exclusive_or (x == t) (is_listed (drop (j + 1) targets) t)) (is_listed (get_or xs i 0 ∷ drop (i + 1) xs) t))) same
    ∙ ap₂ (λ a b. merged into a b t) (sym (drop_more targets j 0 second)) (sym (drop_more xs i 0 first)))

pub merged_rest : (into targets set : List ℕ) (t : ℕ) → is_listed ((into ++ set) ++ targets) t ≡ merged into targets set t
merged_rest into targets xs t =
    listed_both (into ++ xs) targets t
    ∙ (ap (λ b. exclusive_or b (is_listed targets t)) (listed_both into xs t)
    ∙ (exclusive_or_assoc (is_listed into t) (is_listed xs t) (is_listed targets t) ∙ ap (exclusive_or (is_listed into t)) (exclusive_or_comm (is_listed xs t) (is_listed targets t))))

-- ---- all are below a bound
pub below_pushed : (m x : ℕ) (into new : List ℕ) → new ≡ into ++ x ∷ [] → All (λ t. t < m) into → x < m → All (λ t. t < m) new
below_pushed m x into new is all low =
    subst (All (λ t. t < m)) (sym is) (All-append (λ t. t < m) into (x ∷ []) all one)
  where
    one : All (λ t. t < m) (x ∷ [])
    one zero d lt = low
    one (suc k) d lt = absurd (omega (arith, lt))

pub below_rest : (m i j : ℕ) (into set targets : List ℕ) → All (λ t. t < m) into → All (λ t. t < m) set → All (λ t. t < m) targets → All (λ t. t < m) ((into ++ drop i set) ++ drop j targets)
below_rest m i j into xs targets all of_set of_targets =
    All-append (λ t. t < m) (into ++ drop i xs) (drop j targets)
    (All-append (λ t. t < m) into (drop i xs) all (All-drop (λ t. t < m) i xs of_set))
    (All-drop (λ t. t < m) j targets of_targets)
