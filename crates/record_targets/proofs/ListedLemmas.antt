-- The targets that list each record, put into one list of numbers.
use Rattle.std.proofs.Common.{◌≡◌, ◌≢◌, ℕ, zero, suc, ◌+◌, ◌-◌, ◌<◌, ◌≤◌, ◌^◌, Bool, false, List, [], ◌∷◌, ◌++◌, length, drop, take, get_or, set, inl, inr, refl, ap, ap₂, subst, sym, ◌∙◌, arith, length-set, get_or-set_same, get_or-set_other}
use Rattle.std.specs.Prelude.{cond, map, replicate, slice_range}
use Rattle.std.specs.List.{concat, range_with_len}
use Rattle.std.proofs.lemmas.Bool.{cases_eq, cases_lt, eq-eqb, ne_eqb}
use Rattle.std.proofs.lemmas.List.{drop_all, drop_more, drop-set-lt, drop-set-add, get_or-map, get_or-replicate, length-drop, length-map, length-replicate, take-set-le, take_more_set}
use Rattle.std.proofs.lemmas.List.FromFn.{fill_by_all, length-map-range_with_len, get_or-map-range_with_len}
use Rattle.step_model.specs.Listing.{Listing}
use Rattle.step_model.specs.Targets.{is_listed, target_at, targets_of}
use Rattle.flat_lists.specs.Cuts.{AreEnds, cut}
use Rattle.flat_lists.proofs.CutLemmas.{get_or-cut, length-cut, rising_ends}
use Rattle.record_targets.specs.private.ListedTargets.{ArePut, HasRoom, left_from, listing_below, marked_rows, start_of, times_in}
use Rattle.record_targets.specs.private.RecordSets.{toggled_in}
use Rattle.step_model.specs.TargetSets.{row_of_set, toggled}
use Rattle.record_targets.proofs.OrderLemmas.{listed_pushed}
use Rattle.record_targets.proofs.SetLemmas.{length-listing_below, listing_below-none}
use Rattle.step_model.proofs.MemberLemmas.{map_agree}
use Rattle.step_model.proofs.RowLemmas.{length-row_of_set, row_of_more, row_of_no_set}

-- ---- where records start
start_rises : (whole : List ℕ) (i j : ℕ) → i ≤ j → start_of whole i ≤ start_of whole j
start_rises whole i zero le = let e : i ≡ 0 = omega (arith, le) in omega (arith, ap (start_of whole) e)
start_rises whole i (suc j) le =
    elim (cases_eq i (suc j)) as (λ _. start_of whole i ≤ start_of whole (suc j)) [
      | inl e ↦ omega (arith, ap (start_of whole) e)
      | inr ne ↦ omega (arith, start_rises whole i j (omega (arith, le, ne)))
    ]

no_start : (r : ℕ) → start_of [] r ≡ 0
no_start zero = refl
no_start (suc r) = omega (arith, no_start r)

times_same : (r : ℕ) (left : List ℕ) → times_in r (r ∷ left) ≡ times_in r left + 1
times_same r left = ap (λ b. cond b 1 0 + times_in r left) (eq-eqb r r refl) ∙ omega arith

times_other : (r s : ℕ) (left : List ℕ) → s ≢ r → times_in r (s ∷ left) ≡ times_in r left
times_other r s left ne = ap (λ b. cond b 1 0 + times_in r left) (ne_eqb s r ne) ∙ omega arith

pub times-append : (r : ℕ) (xs ys : List ℕ) → times_in r (xs ++ ys) ≡ times_in r xs + times_in r ys
times-append r [] ys = omega arith
times-append r (x ∷ xs) ys = omega (arith, times-append r xs ys)

pub counted : (counts left : List ℕ) (rec r : ℕ) → rec < length counts → r < length counts
    → get_or (set counts rec (get_or counts rec 0 + 1)) r 0 + times_in r left ≡ get_or counts r 0 + times_in r (rec ∷ left)
counted counts left rec r there lt =
    elim (cases_eq r rec) as (λ _. get_or (set counts rec (get_or counts rec 0 + 1)) r 0 + times_in r left ≡ get_or counts r 0 + times_in r (rec ∷ left)) [
      | inl e ↦
          subst (λ k. get_or (set counts rec (get_or counts rec 0 + 1)) k 0 + times_in k left ≡ get_or counts k 0 + times_in k (rec ∷ left)) (sym e)
          (omega (arith, get_or-set_same counts rec (get_or counts rec 0 + 1) 0 there, times_same rec left))
      | inr ne ↦ omega (arith, get_or-set_other counts rec r (get_or counts rec 0 + 1) 0 ne, times_other r rec left (λ e. ne (sym e)))
    ]

-- what a target lists, and what is left behind it
pub left_from-more : (program : Listing) (t : ℕ) → t < length (targets_of program) → left_from program t ≡ target_at program t ++ left_from program (t + 1)
left_from-more program t there = ap concat (drop_more (targets_of program) t [] there)

pub left_from-all : (program : Listing) → left_from program (length (targets_of program)) ≡ []
left_from-all program = ap concat (drop_all (length (targets_of program)) (targets_of program) (omega arith))

-- ---- parts of a list where a number is set
part_before : (xs : List ℕ) (i j p x : ℕ) → i ≤ j → j ≤ p → slice_range (set xs p x) i j ≡ slice_range xs i j
part_before xs i j p x ordered past =
    let place : p ≡ i + (p - i) = omega (arith, ordered, past) in
    ap (λ (k : ℕ). take (j - i) (drop i (set xs k x))) place
    ∙ (ap (take (j - i)) (drop-set-add i xs (p - i) x)
    ∙ take-set-le (j - i) (drop i xs) (p - i) x (omega (arith, ordered, past)))

part_behind : (xs : List ℕ) (i j p x : ℕ) → p < i → slice_range (set xs p x) i j ≡ slice_range xs i j
part_behind xs i j p x before = ap (take (j - i)) (drop-set-lt i xs p x before)

part_more : (xs : List ℕ) (i p x : ℕ) → i ≤ p → p < length xs → slice_range (set xs p x) i (p + 1) ≡ slice_range xs i p ++ x ∷ []
part_more xs i p x low inside =
    let n = p - i in
    let place : p ≡ i + n = omega (arith, low) in
    let size : p + 1 - i ≡ n + 1 = omega (arith, low) in
    let left : n < length (drop i xs) = omega (arith, length-drop i xs, inside, low) in
    ap₂ (λ (k q : ℕ). take k (drop i (set xs q x))) size place
    ∙ (ap (take (n + 1)) (drop-set-add i xs n x)
    ∙ take_more_set (drop i xs) n x left)

row_of_last : (m t : ℕ) (xs : List ℕ) → t < m → row_of_set m (xs ++ t ∷ []) ≡ toggled t (row_of_set m xs)
row_of_last m t xs low =
    map_agree (is_listed (xs ++ t ∷ [])) (is_listed (t ∷ xs)) (listed_pushed xs t) (range_with_len 0 m) ∙ row_of_more m t xs low

-- ---- a target put at a record's mark
module _ (whole left marks numbers : List ℕ) (rec t : ℕ) (room : HasRoom whole (rec ∷ left) marks numbers) (there : rec < length marks) where
  abbrev mark : ℕ
  mark = get_or marks rec 0

  abbrev moved : List ℕ
  moved = set marks rec (mark + 1)

  same : get_or moved rec 0 ≡ mark + 1
  same = get_or-set_same marks rec (mark + 1) 0 there

  other : (r : ℕ) → r ≢ rec → get_or moved r 0 ≡ get_or marks r 0
  other r ne = get_or-set_other marks rec r (mark + 1) 0 ne

  size : length moved ≡ length marks
  size = length-set marks rec (mark + 1)

  before_next : mark + 1 ≤ start_of whole (suc rec)
  before_next = omega (arith, room.ahead rec there, times_same rec left)

  pub mark_within : mark < length numbers
  mark_within = omega (arith, before_next, start_rises whole (suc rec) (length marks) (omega (arith, there)), room.full)

  pub room_left : HasRoom whole left moved (set numbers mark t)
  room_left =
      record {
        low = λ r lt. elim (cases_eq r rec) as (λ _. start_of whole r ≤ get_or moved r 0) [
          | inl e ↦ omega (arith, ap (start_of whole) e, ap (λ k. get_or moved k 0) e, same, room.low rec there)
          | inr ne ↦ omega (arith, other r ne, room.low r (omega (arith, lt, size)))
        ];
        ahead = λ r lt. elim (cases_eq r rec) as (λ _. get_or moved r 0 + times_in r left ≡ start_of whole (suc r)) [
          | inl e ↦ subst (λ k. get_or moved k 0 + times_in k left ≡ start_of whole (suc k)) (sym e) (omega (arith, same, room.ahead rec there, times_same rec left))
          | inr ne ↦ omega (arith, other r ne, room.ahead r (omega (arith, lt, size)), times_other r rec left (λ e. ne (sym e)))
        ];
        full = ap (start_of whole) size ∙ (room.full ∙ sym (length-set numbers mark t));
        few = omega (arith, length-set numbers mark t, room.few);
      }

  abbrev part : ℕ → List ℕ
  part r = slice_range numbers (start_of whole r) (get_or marks r 0)

  part_stays : (r : ℕ) → r < length marks → r ≢ rec → slice_range (set numbers mark t) (start_of whole r) (get_or marks r 0) ≡ part r
  part_stays r lt ne =
      elim (cases_lt r rec) as (λ _. slice_range (set numbers mark t) (start_of whole r) (get_or marks r 0) ≡ part r) [
        | inl less ↦
            part_before numbers (start_of whole r) (get_or marks r 0) mark t (room.low r lt)
            (omega (arith, room.ahead r lt, start_rises whole (suc r) rec (omega (arith, less)), room.low rec there))
        | inr le ↦
            part_behind numbers (start_of whole r) (get_or marks r 0) mark t
            (omega (arith, before_next, start_rises whole (suc rec) r (omega (arith, le, ne))))
      ]

  pub rows_put : (m : ℕ) → t < m → marked_rows m whole moved (set numbers mark t) ≡ toggled_in t rec (marked_rows m whole marks numbers)
  rows_put m low =
      sym (fill_by_all new_row (toggled_in t rec rows) (length moved) []
      (length-set rows rec (toggled t (get_or rows rec [])) ∙ (length-map-range_with_len row 0 (length marks) ∙ sym size))
      (λ r lt.
      let within : r < length marks = omega (arith, lt, size) in
      elim (cases_eq r rec) as (λ _. get_or (toggled_in t rec rows) r [] ≡ new_row r) [
        | inl e ↦
            ap (λ k. get_or (toggled_in t rec rows) k []) e
            ∙ (get_or-set_same rows rec (toggled t (get_or rows rec [])) [] (omega (arith, there, length-map-range_with_len row 0 (length marks)))
            ∙ (ap (toggled t) (row_at rec there)
            ∙ (sym (row_of_last m t (part rec) low)
            ∙ (ap (row_of_set m) (sym (part_more numbers (start_of whole rec) mark t (room.low rec there) mark_within)
            ∙ ap (slice_range (set numbers mark t) (start_of whole rec)) (sym same))
            ∙ ap new_row (sym e)))))
        | inr ne ↦
            get_or-set_other rows rec r (toggled t (get_or rows rec [])) [] ne
            ∙ (row_at r within
            ∙ ap (row_of_set m) (sym (part_stays r within ne) ∙ ap (slice_range (set numbers mark t) (start_of whole r)) (sym (other r ne))))
      ]))
    where
      row : ℕ → List Bool
      row r = row_of_set m (part r)

      new_row : ℕ → List Bool
      new_row r = row_of_set m (slice_range (set numbers mark t) (start_of whole r) (get_or moved r 0))

      rows : List (List Bool)
      rows = marked_rows m whole marks numbers

      row_at : (r : ℕ) → r < length marks → get_or rows r [] ≡ row r
      row_at r lt = get_or-map-range_with_len row 0 (length marks) r r [] lt (omega arith)

pub marks_counted : (program : Listing) (t : ℕ) (marks numbers : List ℕ) → ArePut program t marks numbers → length marks ≡ program.records
marks_counted program t marks numbers put =
    sym (length-map-range_with_len (λ r. row_of_set (length (targets_of program)) (slice_range numbers (start_of (left_from program 0) r) (get_or marks r 0))) 0 (length marks))
    ∙ (ap length put.rows ∙ length-listing_below program t)

-- ---- before any target, and after all
some_target : (ts : List (List ℕ)) (r : ℕ) → 0 < start_of (concat ts) r → 0 < length ts
some_target [] r some = absurd (omega (arith, some, no_start r))
some_target (x ∷ ts) r some = omega arith

pub none_put : (program : Listing) (marks numbers : List ℕ) → length marks ≡ program.records → ((r : ℕ) → r < length marks → get_or marks r 0 ≡ start_of (left_from program 0) r)
    → numbers ≡ replicate (start_of (left_from program 0) (length marks)) 0 → length numbers < 2 ^ 64 → ArePut program 0 marks numbers
none_put program marks numbers count starts blank few =
    record {
      room =
          record {
            low = λ r lt. omega (arith, starts r lt);
            ahead = λ r lt. omega (arith, starts r lt);
            full = sym filled;
            few = few;
          };
      rows =
          sym (fill_by_all row (replicate program.records none) (length marks) [] (length-replicate program.records none ∙ sym count)
          (λ r lt.
          get_or-replicate program.records r none [] (omega (arith, lt, count))
          ∙ (sym (row_of_no_set m) ∙ ap (row_of_set m) (nothing r lt))))
          ∙ listing_below-none program;
      below = λ k d lt. subst (λ (xs : List ℕ). get_or xs k d < m) (sym blank) (zeros k d (omega (arith, lt, filled)));
    }
  where
    m : ℕ
    m = length (targets_of program)

    whole : List ℕ
    whole = left_from program 0

    none : List Bool
    none = replicate m false

    row : ℕ → List Bool
    row r = row_of_set m (slice_range numbers (start_of whole r) (get_or marks r 0))

    filled : length numbers ≡ start_of whole (length marks)
    filled = ap length blank ∙ length-replicate (start_of whole (length marks)) 0

    nothing : (r : ℕ) → r < length marks → [] ≡ slice_range numbers (start_of whole r) (get_or marks r 0)
    nothing r lt = let e : 0 ≡ get_or marks r 0 - start_of whole r = omega (arith, starts r lt) in ap (λ k. take k (drop (start_of whole r) numbers)) e

    zeros : (k d : ℕ) → k < start_of whole (length marks) → get_or (replicate (start_of whole (length marks)) 0) k d < m
    zeros k d lt = omega (arith, get_or-replicate (start_of whole (length marks)) k 0 d lt, some_target (targets_of program) (length marks) (omega (arith, lt)))

-- the marks are then where the lists end
module _ (program : Listing) (marks numbers : List ℕ) (put : ArePut program (length (targets_of program)) marks numbers) where
  ends : (r : ℕ) → r < length marks → get_or marks r 0 ≡ start_of (left_from program 0) (suc r)
  ends r lt = omega (arith, put.room.ahead r lt, ap (times_in r) (left_from-all program))

  starts : (r : ℕ) → r ≤ length marks → get_or (0 ∷ marks) r 0 ≡ start_of (left_from program 0) r
  starts zero le = refl
  starts (suc r) le = ends r (omega (arith, le))

  pub are_ends : AreEnds 0 marks (length numbers)
  are_ends =
      rising_ends 0 marks (length numbers) (λ r lt. omega (arith, starts r (omega (arith, lt)), put.room.low r lt)) (starts (length marks) (omega arith) ∙ put.room.full)

  pub all_rows : map (row_of_set (length (targets_of program))) (cut 0 marks numbers) ≡ listing_below program (length (targets_of program))
  all_rows =
      fill_by_all row (map (row_of_set m) lists) (length marks) [] (length-map lists (row_of_set m) ∙ length-cut 0 marks numbers)
      (λ r lt.
      get_or-map (row_of_set m) lists r [] [] (omega (arith, lt, length-cut 0 marks numbers))
      ∙ ap (row_of_set m) (get_or-cut 0 marks numbers r lt ∙ ap (λ k. slice_range numbers k (get_or marks r 0)) (starts r (omega (arith, lt)))))
      ∙ put.rows
    where
      m : ℕ
      m = length (targets_of program)

      lists : List (List ℕ)
      lists = cut 0 marks numbers

      row : ℕ → List Bool
      row r = row_of_set m (slice_range numbers (start_of (left_from program 0) r) (get_or marks r 0))

-- ---- one list
module _ (m rec : ℕ) (lists : List (List ℕ)) (rows : List (List Bool)) (is : map (row_of_set m) lists ≡ rows) (low : rec < length rows) where
  pub there : rec < length lists
  there = omega (arith, low, ap length is, length-map lists (row_of_set m))

  row_is : row_of_set m (get_or lists rec []) ≡ get_or rows rec []
  row_is = sym (get_or-map (row_of_set m) lists rec [] [] there) ∙ ap (λ (l : List (List Bool)). get_or l rec []) is

  pub long : m ≡ length (get_or rows rec [])
  long = sym (length-row_of_set m (get_or lists rec [])) ∙ ap length row_is

  pub set_is : row_of_set (length (get_or rows rec [])) (get_or lists rec []) ≡ get_or rows rec []
  set_is = ap (λ n. row_of_set n (get_or lists rec [])) (sym long) ∙ row_is
