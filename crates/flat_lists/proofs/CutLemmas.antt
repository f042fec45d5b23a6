-- How many pieces a cut has, which piece is at an index, and one more piece at the end.
use Rattle.std.proofs.Common.{◌≡◌, ℕ, ◌+◌, ◌-◌, ◌<◌, ◌≤◌, zero, suc, List, [], ◌∷◌, ◌++◌, length, get_or, take, drop, Some, refl, sym, ap, ◌∙◌, arith, slice_get}
use Rattle.std.specs.Prelude.{All, slice_range}
use Rattle.std.proofs.lemmas.List.{drop_at, drop-append-le, take-append-drop, take-append-le, take_all, length-append, length-drop, length-take, get_or_read}
use Rattle.std.proofs.lemmas.List.Elements.{All-cons, All-drop, All-nil, All-take}
use Rattle.flat_lists.specs.Cuts.{cut, AreEnds}

-- as many pieces as ends
pub length-cut : {X : Type 0} → (start : ℕ) (ends : List ℕ) (items : List X) → length (cut start ends items) ≡ length ends
length-cut start [] items = refl
length-cut start (end ∷ ends) items = ap suc (length-cut end ends items)

-- the piece at an index
slice_get-cut : {X : Type 0} → (start : ℕ) (ends : List ℕ) (items : List X) (k : ℕ) → k < length ends → slice_get (cut start ends items) k ≡ Some (slice_range items (get_or (start ∷ ends) k 0) (get_or ends k 0))
slice_get-cut start [] items k h = absurd (omega arith)
slice_get-cut start (end ∷ ends) items zero h = refl
slice_get-cut start (end ∷ ends) items (suc k) h = slice_get-cut end ends items k (omega arith)

pub get_or-cut : {X : Type 0} → (start : ℕ) (ends : List ℕ) (items : List X) (k : ℕ) → k < length ends → get_or (cut start ends items) k [] ≡ slice_range items (get_or (start ∷ ends) k 0) (get_or ends k 0)
get_or-cut start [] items k h = absurd (omega arith)
get_or-cut start (end ∷ ends) items zero h = refl
get_or-cut start (end ∷ ends) items (suc k) h = get_or-cut end ends items k (omega arith)

-- no end is past the count
pub start_le_count : (start : ℕ) (ends : List ℕ) (count : ℕ) → AreEnds start ends count → start ≤ count
start_le_count start [] count h = omega arith
start_le_count start (end ∷ ends) count h = omega (arith, start_le_count end ends count h.1)

-- ends that never fall, of which the last is the count
pub rising_ends : (start : ℕ) (ends : List ℕ) (count : ℕ) → ((k : ℕ) → k < length ends → get_or (start ∷ ends) k 0 ≤ get_or ends k 0) → get_or (start ∷ ends) (length ends) 0 ≡ count → AreEnds start ends count
rising_ends start [] count rises last = last
rising_ends start (end ∷ ends) count rises last =
    (rises 0 (omega arith), rising_ends end ends count (λ k lt. rises (suc k) (omega (arith, lt))) last)

-- what holds of all items holds of those of each piece
pub All-cut : {X : Type 0} (P : X → Type 0) (start : ℕ) (ends : List ℕ) (items : List X) → All P items → All (All P) (cut start ends items)
All-cut P start [] items h = All-nil (All P)
All-cut P start (end ∷ ends) items h =
    All-cons (All P) (slice_range items start end) (cut end ends items) (All-take P (end - start) (drop start items) (All-drop P start items h)) (All-cut P end ends items h)

-- each piece is a part of the list
piece_in_range : (start : ℕ) (ends : List ℕ) (count k : ℕ) → AreEnds start ends count → k < length ends → (get_or (start ∷ ends) k 0 ≤ get_or ends k 0) × (get_or ends k 0 ≤ count)
piece_in_range start [] count k h below = absurd (omega arith)
piece_in_range start (end ∷ ends) count zero h below = (h.0, start_le_count end ends count h.1)
piece_in_range start (end ∷ ends) count (suc k) h below = piece_in_range end ends count k h.1 (omega arith)

-- one more end, which is the new count
pub AreEnds-push : (start : ℕ) (ends : List ℕ) (count end total : ℕ) → AreEnds start ends count → count ≤ end → end ≡ total → AreEnds start (ends ++ end ∷ []) total
AreEnds-push start [] count end total are le e = (omega arith, e)
AreEnds-push start (next ∷ ends) count end total are le e =
    (are.0, AreEnds-push next ends count end total are.1 le e)

-- a part that ends within the front is a part of the front
pub slice_range-append_left : {X : Type 0} → (xs ys : List X) (i j : ℕ) → i ≤ j → j ≤ length xs → slice_range (xs ++ ys) i j ≡ slice_range xs i j
slice_range-append_left xs ys i j le within =
    let start_within : i ≤ length xs = omega arith in
    let fits : j - i ≤ length (drop i xs) = simp length-drop (omega arith) in
    rw drop-append-le (take-append-le (j - i) (drop i xs) ys fits)

-- the part from the end of the front on is the back
slice_range-append_right : {X : Type 0} → (xs ys : List X) (i j : ℕ) → i ≡ length xs → j ≡ length xs + length ys → slice_range (xs ++ ys) i j ≡ ys
slice_range-append_right xs ys i j at_end total =
    ap (take (j - i)) (drop_at xs ys i (sym at_end)) ∙ take_all (j - i) ys (omega arith)

-- one more piece, which is all that came behind the last end
pub cut-push : {X : Type 0} → (start : ℕ) (ends : List ℕ) (items list : List X) (count : ℕ) → AreEnds start ends (length items) → count ≡ length items + length list → cut start (ends ++ count ∷ []) (items ++ list) ≡ cut start ends items ++ list ∷ []
cut-push start [] items list count h e =
    ap (λ piece. piece ∷ []) (slice_range-append_right items list start count h e)
cut-push start (end ∷ ends) items list count h e =
    let within : end ≤ length items = start_le_count end ends (length items) h.1 in
    let same = slice_range-append_left items list start end h.0 within in
    rw same (ap (λ rest. slice_range items start end ∷ rest) (cut-push end ends items list count h.1 e))

-- what is known of the piece at an index, once its start and its end are read
pub record IsPieceAt {X : Type 0} (items : List X) (lists : List (List X)) (index start end : ℕ) : Type 0 where
  pub ordered : start ≤ end
  pub within : end ≤ length items
  pub item : slice_get lists index ≡ Some (slice_range items start end)
  pub value : slice_range items start end ≡ get_or lists index []

pub IsPieceAt-read : {X : Type 0} (ends : List ℕ) (items : List X) {lists : List (List X)} {index start end : ℕ} → cut 0 ends items ≡ lists → AreEnds 0 ends (length items) → index < length lists → start ≡ get_or (0 ∷ ends) index 0 → end ≡ get_or ends index end → IsPieceAt items lists index start end
IsPieceAt-read ends items {lists} {index} {start} {end} view are below start_is end_is =
    let below_ends : index < length ends = omega (arith, length-cut 0 ends items, ap length view) in
    let end_at : end ≡ get_or ends index 0 = get_or_read ends index end below_ends end_is 0 in
    let range = piece_in_range 0 ends (length items) index are below_ends in
    let part : slice_range items (get_or (0 ∷ ends) index 0) (get_or ends index 0) ≡ slice_range items start end = rw (start_is, end_at) refl in
    record {
      ordered = omega (arith, range.0);
      within = omega (arith, range.1);
      item = rw (← view, ← part) (slice_get-cut 0 ends items index below_ends);
      value = rw (← view, ← part) (sym (get_or-cut 0 ends items index below_ends));
    }

-- what each method's goals take
pub ruleset counts = (length-cut)

-- all items in pieces, of which the last is what came behind the others
pub cut-rest : {X : Type 0} → (ends : List ℕ) (items : List X) (start count : ℕ) → AreEnds 0 ends start → start ≤ length items → count ≡ length items → (AreEnds 0 (ends ++ count ∷ []) (length items)) × (cut 0 (ends ++ count ∷ []) items ≡ cut 0 ends (take start items) ++ drop start items ∷ [])
cut-rest {X} ends items start count are within all =
    let front : length (take start items) ≡ start = simp length-take (omega (arith, within)) in
    let parts : take start items ++ drop start items ≡ items = take-append-drop start items in
    let sum : count ≡ length (take start items) + length (drop start items) = rw (← length-append, parts) all in (
      AreEnds-push 0 ends start count (length items) are (omega (arith, within, all)) all,
      ap (λ (xs : List X). cut 0 (ends ++ count ∷ []) xs) (sym parts)
          ∙ cut-push 0 ends (take start items) (drop start items) count (rw front are) sum,
    )
