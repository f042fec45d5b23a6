-- The targets that list each record, in one list of numbers: those of one record stand one after another. They are put
-- there detector by detector, and then by what is added to observables: of each record there is a mark, before which what
-- was put for it stands. What is left to be put are records, each as often as it is listed. (This project's own.)
use Rattle.std.specs.Prelude.{◌≡◌, ◌<◌, ◌≤◌, ◌+◌, ◌^◌, ◌==◌, nat_lt, ◌&&◌, ℕ, zero, suc, Bool, false, List, [], ◌∷◌, ◌++◌, length, map, drop, slice_index_or, slice_range, All, cond}
use Rattle.std.specs.List.{concat, range_with_len}
use Rattle.step_model.specs.Listing.{Listing}
use Rattle.step_model.specs.Targets.{is_listed, target_at, targets_of}
use Rattle.step_model.specs.TargetSets.{row_of_set}
use Rattle.circuit_walk.specs.Declarations.{AreDeclarations, Declared, Detector, Inclusion}
use Rattle.record_targets.specs.private.RecordSets.{toggled_in_each}

-- how often a list has a record
abbrev pub times_in : ℕ → List ℕ → ℕ
times_in r [] = 0
times_in r (s ∷ named) = cond (s == r) 1 0 + times_in r named

abbrev pub AreCounts : List ℕ → List ℕ → Type 0
AreCounts whole counts = (r : ℕ) → r < length counts → slice_index_or counts r 0 ≡ times_in r whole

-- the records that declarations name, one after another
abbrev pub named_in : List Declared → List ℕ
named_in [] = []
named_in (Detector records ∷ all) = records ++ named_in all
named_in (Inclusion k records ∷ all) = records ++ named_in all

-- those that are added to observables
abbrev pub included_in : List Declared → List ℕ
included_in [] = []
included_in (Detector records ∷ all) = included_in all
included_in (Inclusion k records ∷ all) = records ++ included_in all

-- what declarations name is counted, unless that failed
pub record AreCounted (program : Listing) (done : List Declared) (failed : Bool) (counts : List ℕ) : Type 0 where
  pub size : length counts ≡ program.records
  pub counted : failed ≡ false → AreCounts (named_in done) counts

-- where the numbers of a record start
abbrev pub start_of : List ℕ → ℕ → ℕ
start_of whole zero = 0
start_of whole (suc r) = start_of whole r + times_in r whole

abbrev pub AreStarts : List ℕ → List ℕ → Type 0
AreStarts whole starts = (r : ℕ) → r < length starts → slice_index_or starts r 0 ≡ start_of whole r

-- what targets list, from one on
abbrev pub left_from : Listing → ℕ → List ℕ
left_from program t = concat (drop t (targets_of program))

-- what is left of the whole has room between the mark of its record and the next record's start
pub record HasRoom (whole left marks numbers : List ℕ) : Type 0 where
  pub low : (r : ℕ) → r < length marks → start_of whole r ≤ slice_index_or marks r 0
  pub ahead : (r : ℕ) → r < length marks → slice_index_or marks r 0 + times_in r left ≡ start_of whole (suc r)
  pub full : start_of whole (length marks) ≡ length numbers
  pub few : length numbers < 2 ^ 64

-- the rows for which what was put stands
abbrev pub marked_rows : ℕ → List ℕ → List ℕ → List ℕ → List (List Bool)
marked_rows m whole marks numbers =
    map (λ r. row_of_set m (slice_range numbers (start_of whole r) (slice_index_or marks r 0))) (range_with_len 0 (length marks))

-- the sets of all records, of the targets below t
abbrev pub listed_below : Listing → ℕ → ℕ → ℕ → Bool
listed_below program t r d = nat_lt d t && is_listed (target_at program d) r

abbrev pub listing_below : Listing → ℕ → List (List Bool)
listing_below program t =
    map (λ r. map (listed_below program t r) (range_with_len 0 (length (targets_of program)))) (range_with_len 0 program.records)

-- the targets below t were put
pub record ArePut (program : Listing) (t : ℕ) (marks numbers : List ℕ) : Type 0 where
  pub room : HasRoom (left_from program 0) (left_from program t) marks numbers
  pub rows : marked_rows (length (targets_of program)) (left_from program 0) marks numbers ≡ listing_below program t
  pub below : All (λ n. n < length (targets_of program)) numbers

-- a target was put for each of these records, but for those that are left of them
pub record ArePutBut (target : ℕ) (records left marks numbers new_marks new_numbers : List ℕ) : Type 0 where
  pub room : (whole later : List ℕ) → HasRoom whole (records ++ later) marks numbers → HasRoom whole (left ++ later) new_marks new_numbers
  pub rows : (m : ℕ) (whole later : List ℕ) → target < m → HasRoom whole (records ++ later) marks numbers → toggled_in_each target left (marked_rows m whole new_marks new_numbers) ≡ toggled_in_each target records (marked_rows m whole marks numbers)
  pub below : (m : ℕ) → target < m → All (λ n. n < m) numbers → All (λ n. n < m) new_numbers
  pub size : length new_marks ≡ length marks

-- the sets, with each inclusion's observable toggled at the records that are added to it. Observables are numbered behind
-- n detectors
abbrev pub with_included : ℕ → List Declared → List (List Bool) → List (List Bool)
with_included n [] sets = sets
with_included n (Detector records ∷ all) sets = with_included n all sets
with_included n (Inclusion k records ∷ all) sets = with_included n all (toggled_in_each (n + k) records sets)

-- all detectors were put, and behind them what these declarations add to observables
pub record AreIncluded (program : Listing) (done : List Declared) (marks numbers : List ℕ) : Type 0 where
  pub room : (rest : List Declared) → AreDeclarations program (done ++ rest) → HasRoom (left_from program 0) (included_in rest) marks numbers
  pub rows : marked_rows (length (targets_of program)) (left_from program 0) marks numbers ≡ with_included (length program.detectors) done (listing_below program (length program.detectors))
  pub below : All (λ n. n < length (targets_of program)) numbers
  pub size : length marks ≡ program.records
