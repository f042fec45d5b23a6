-- Columns that are lent, changed and given back.
use Rattle.std.proofs.Common.{◌≡◌, ℕ, ◌<◌, Bool, List, [], Result, OnOk, length, get_or, set, ap, subst, sym, ◌∙◌, arith}
use Rattle.std.specs.Prelude.{All}
use Rattle.std.proofs.lemmas.List.{get_or_default}
use Rattle.std.proofs.lemmas.List.Elements.{All-set}
use Rattle.std.proofs.lemmas.Result.{on_ok_weaker}
use Rattle.pauli_word.specs.declared.letter.Letter.{Letter}
use Rattle.trackers.specs.Tracked.{Tracked, each_word}
use Rattle.trackers.specs.private.Transposed.{ArePlaces, IsTransposed, tracked_of}

-- columns lent as a slice
pub lent_long : (m : ℕ) (columns slice : List (List Letter)) (row : List Bool) → slice ≡ columns → length row ≡ m → All (λ column. length column ≡ m) columns → All (λ column. length column ≡ length row) slice
lent_long m columns slice row same row_long long = subst (All (λ (column : List Letter). length column ≡ length row)) (sym same) (λ k d lt. long k d lt ∙ sym row_long)

-- and given back: what else was lent stays as long
pub given_back : {m : ℕ} {columns : List (List Letter)} {first second : List Letter} {set spare : List Bool} (now made : List (List Letter)) (first_now : List Letter) (spare_now : List Bool) → IsTransposed m columns first second set spare
    → now ≡ made → All (λ column. length column ≡ length spare) made → length first_now ≡ length first → length spare_now ≡ length spare → IsTransposed m now first_now second set spare_now
given_back {m} now made first_now spare_now h same long first_stays spare_stays =
    record {
      columns_long = subst (All (λ (column : List Letter). length column ≡ m)) (sym same) (λ k d lt. long k d lt ∙ h.spare_long);
      first_long = first_stays ∙ h.first_long;
      second_long = h.second_long;
      set_long = h.set_long;
      spare_long = spare_stays ∙ h.spare_long;
      few = h.few;
    }

-- the same of one column that was changed where it stands
pub column_given_back : {m : ℕ} {columns : List (List Letter)} {first second : List Letter} {row spare : List Bool} (q : ℕ) (column first_now : List Letter) (row_now spare_now : List Bool) → IsTransposed m columns first second row spare
    → length column ≡ m → length first_now ≡ length first → length row_now ≡ length row → length spare_now ≡ length spare → IsTransposed m (set columns q column) first_now second row_now spare_now
column_given_back {m} {columns} q column first_now row_now spare_now h long first_stays row_stays spare_stays =
    record {
      columns_long = All-set (λ column. length column ≡ m) columns q column long h.columns_long;
      first_long = first_stays ∙ h.first_long;
      second_long = h.second_long;
      set_long = row_stays ∙ h.set_long;
      spare_long = spare_stays ∙ h.spare_long;
      few = h.few;
    }

-- a column that is read or lent, of some that are as long as m
pub record IsColumn (m q : ℕ) (columns : List (List Letter)) (column : List Letter) : Type 0 where
  pub within : q < length columns
  pub is : column ≡ get_or columns q []
  pub long : length column ≡ m
  pub there : length (get_or columns q []) ≡ m
  pub as_long : (n : ℕ) → n ≡ m → n ≡ length column

pub column_at : {m : ℕ} {columns : List (List Letter)} (q : ℕ) (column d : List Letter) → All (λ column. length column ≡ m) columns → q < length columns → column ≡ get_or columns q d → IsColumn m q columns column
column_at {m} {columns} q column d long within at =
    record {
      within = within;
      is = at ∙ get_or_default columns q d [] within;
      long = ap length at ∙ long q d within;
      there = long q [] within;
      as_long = λ n e. e ∙ sym (ap length at ∙ long q d within);
    }

-- two that are read are as long as one another
pub same_long : (columns : List (List Letter)) (p q : ℕ) (d e u v : List Letter) → p < length columns → q < length columns → length (get_or columns p []) ≡ length (get_or columns q []) → u ≡ get_or columns p d → v ≡ get_or columns q e → length u ≡ length v
same_long columns p q d e u v in_first in_second same at_first at_second =
    ap length (at_first ∙ get_or_default columns p d [] in_first) ∙ (same ∙ sym (ap length (at_second ∙ get_or_default columns q e [] in_second)))

-- the same, by the qubit of the words at which it stands
pub lent : {m : ℕ} {columns : List (List Letter)} {first second : List Letter} {set spare : List Bool} {tracked : Tracked} (q : ℕ) (column d : List Letter) → IsTransposed m columns first second set spare
    → tracked_of m columns ≡ tracked → q < tracked.qubits → column ≡ get_or columns q d → IsColumn m q columns column
lent q column d h view inside at = column_at q column d h.columns_long (omega (arith, ap (λ (t : Tracked). t.qubits) view, inside)) at

-- two places of the words are places of the columns
pub at_columns : (m : ℕ) (columns : List (List Letter)) (tracked : Tracked) {a b : ℕ} → tracked_of m columns ≡ tracked → ArePlaces tracked.qubits a b → ArePlaces (length columns) a b
at_columns m columns tracked {a} {b} view = subst (λ n. ArePlaces n a b) (sym (ap (λ (t : Tracked). t.qubits) view))

-- what a call makes of the columns at two places is what becomes of each word
pub words_changed : {T E : Type 0} (r : Result T E) {m : ℕ} {columns : List (List Letter)} {first second : List Letter} {set spare : List Bool} (by : List (List Letter) → List (List Letter)) (f : List Letter → List Letter) (tracked : Tracked) {a b : ℕ} (lent made now : List (List Letter))
    → IsTransposed m columns first second set spare → tracked_of m columns ≡ tracked → ArePlaces tracked.qubits a b
    → (ArePlaces (length columns) a b → All (λ column. length column ≡ m) columns → tracked_of m (by columns) ≡ each_word f (tracked_of m columns))
    → lent ≡ columns → now ≡ made → OnOk r (made ≡ by lent) → OnOk r (tracked_of m now ≡ each_word f tracked)
words_changed r {m} {columns} by f tracked lent made now h view places law held given =
    on_ok_weaker r (λ done. ap (tracked_of m) (given ∙ (done ∙ ap by held)) ∙ (law (at_columns m columns tracked view places) h.columns_long ∙ ap (each_word f) view))
