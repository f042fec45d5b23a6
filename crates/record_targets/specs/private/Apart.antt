-- The sets of the targets that list each record, where what changed is apart from the program's own, and what changed of
-- one record is apart from the others. (This project's own.)
use Rattle.pauli_word.specs.Parity.{exclusive_or}
use Rattle.step_model.specs.Targets.{is_listed}
use Rattle.std.specs.Prelude.{◌≡◌, ◌<◌, ℕ, Bool, false, List, [], ◌∷◌, Option, None, Some, All, IfSome, length, replicate, slice_index_or, slice_set}
use Rattle.record_targets.specs.ListingSets.{toggled_each}
use Rattle.bit_rows.specs.Rows.{xor_rows}
use Rattle.step_model.specs.TargetSets.{row_of_set}

-- the rows, with that of the record whose set is apart
abbrev pub with_apart : ℕ → List (List Bool) → Option ℕ → List ℕ → List (List Bool)
with_apart m rows None set = rows
with_apart m rows (Some r) set = slice_set rows r (row_of_set m set)

-- all rows are of m targets, and the set that is apart is one of them
pub record IsApart (m : ℕ) (rows : List (List Bool)) (apart : Option ℕ) (set : List ℕ) : Type 0 where
  pub long : All (λ row. length row ≡ m) rows
  pub within : IfSome apart (λ r. r < length rows)
  pub below : All (λ t. t < m) set

-- a row is of none, if it is there, whatever the set is that is apart
abbrev pub IsUnchanged : ℕ → List (List Bool) → Option ℕ → Type 0
IsUnchanged r rows apart =
    r < length rows → (m : ℕ) (set : List ℕ) → slice_index_or (with_apart m rows apart set) r [] ≡ replicate (length (slice_index_or rows r [])) false

-- each number is listed with the parity that two lists together have
pub record AreToggled (targets set toggled : List ℕ) : Type 0 where
  pub parity : (t : ℕ) → is_listed toggled t ≡ exclusive_or (is_listed targets t) (is_listed set t)
  pub below : (m : ℕ) → All (λ t. t < m) targets → All (λ t. t < m) set → All (λ t. t < m) toggled

-- rows with the changes of each, where there are any: a bit is turned where its change is 1
abbrev pub with_changes : List (List Bool) → List (List Bool) → List (List Bool)
with_changes rows [] = rows
with_changes [] (change ∷ changes) = []
with_changes (row ∷ rows) (change ∷ changes) = xor_rows row change ∷ with_changes rows changes

-- there are no changes, or some for each record
pub record IsChanged (m : ℕ) (rows changes : List (List Bool)) (apart : Option ℕ) (set : List ℕ) : Type 0 where
  pub long : All (λ row. length row ≡ m) rows
  pub of_changes : IsApart m changes apart set
  pub count : 0 < length changes → length changes ≡ length rows

-- the rows with some targets toggled in one
abbrev pub toggled_at : ℕ → List ℕ → List (List Bool) → List (List Bool)
toggled_at r targets rows = slice_set rows r (toggled_each targets (slice_index_or rows r []))
