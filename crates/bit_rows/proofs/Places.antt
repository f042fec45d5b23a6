-- The bit at a place of a list of words, and the row that the words hold: its length, the bit at a place, a row from
-- its bits, and a row after one bit was put.
use Rattle.std.proofs.Common.{take, drop, ◌++◌, ◌≡◌, ℕ, zero, suc, ◌+◌, ◌*◌, ◌/◌, ◌%◌, ◌^◌, ◌<◌, ◌≤◌, ◌⊎◌, List, [], ◌∷◌, map, length, get_or, set, replicate, Bool, true, false, not, cond, eqb, refl, sym, ap, subst, ◌∙◌, arith, ⊎_elim, bit_xor, Option, Some, None, get_or-set_same, get_or-set_other, length-set}
use Rattle.std.specs.List.{range_with_len}
use Rattle.std.proofs.Math.Seq.{take-append_seam}
use Rattle.std.specs.Option.{IfNone, IfSome}
use Rattle.std.proofs.lemmas.Bool.{cases_eq, cases_lt, eq-eqb, ne_eqb}
use Rattle.std.proofs.lemmas.List.{get_or_past}
use Rattle.std.proofs.lemmas.Nat.{div-mul-add, mod-mul-add}
use Rattle.std.proofs.lemmas.List.FromFn.{length-map-range_with_len, get_or-map-range_with_len, fill_by_all}
use Rattle.std.proofs.lemmas.Simd.{length-replicate, get_or-replicate}
use Rattle.bit_rows.specs.Rows.{exclusive_or, xor_rows, first_one_of, AreZeroAt}
use Rattle.bit_rows.specs.private.Words.{bit_of, bit_in, row_of, words_for, HoldsRow}
use Rattle.bit_rows.proofs.BitLaws.{at_place, bit_of-xor, bit_of-zero, zero_from_bits}

-- ---- the bit at a place
pub bit_in_word : (words : List ℕ) (k j : ℕ) → j < 64 → bit_in words (k * 64 + j) ≡ bit_of (get_or words k 0) j
unfolding bit_in
bit_in_word words k j h =
    ap (λ v. bit_of (get_or words v 0) ((k * 64 + j) % 64)) (div-mul-add k 64 j h) ∙ ap (bit_of (get_or words k 0)) (mod-mul-add k 64 j h)

pub bit_in_is : (words : List ℕ) (place : ℕ) → bit_in words place ≡ bit_of (get_or words (place / 64) 0) (place % 64)
unfolding bit_in
bit_in_is words place = refl

pub bit_in_zeros : (words : List ℕ) → ((k : ℕ) → get_or words k 0 ≡ 0) → (place : ℕ) → bit_in words place ≡ false
unfolding bit_in
bit_in_zeros words zeros place = ap (λ w. bit_of w (place % 64)) (zeros (place / 64)) ∙ bit_of-zero (place % 64)

pub bit_in-xor : (words first second : List ℕ) → ((k : ℕ) → get_or words k 0 ≡ bit_xor (get_or first k 0) (get_or second k 0))
    → (place : ℕ) → bit_in words place ≡ exclusive_or (bit_in first place) (bit_in second place)
unfolding bit_in
bit_in-xor words first second each place =
    ap (λ w. bit_of w (place % 64)) (each (place / 64)) ∙ bit_of-xor (get_or first (place / 64) 0) (get_or second (place / 64) 0) (place % 64)

-- one word changed so that it has the bit b at a place and its own elsewhere
pub bit_in-set : (words : List ℕ) (place word : ℕ) (b : Bool) → place / 64 < length words
    → ((j : ℕ) → j < 64 → bit_of word j ≡ cond (eqb j (place % 64)) b (bit_of (get_or words (place / 64) 0) j))
    → (k : ℕ) → bit_in (set words (place / 64) word) k ≡ cond (eqb k place) b (bit_in words k)
unfolding bit_in
bit_in-set words place word b within each k =
    ⊎_elim
    (λ (e : k / 64 ≡ place / 64).
    let here : get_or (set words (place / 64) word) (k / 64) 0 ≡ word = ap (λ v. get_or (set words (place / 64) word) v 0) e ∙ get_or-set_same words (place / 64) word 0 within in
    let old : get_or words (place / 64) 0 ≡ get_or words (k / 64) 0 = ap (λ v. get_or words v 0) (sym e) in
    ap (λ w. bit_of w (k % 64)) here
    ∙ each (k % 64) (omega arith)
    ∙ ap (λ w. cond (eqb (k % 64) (place % 64)) b (bit_of w (k % 64))) old
    ∙ ap (λ t. cond t b (bit_of (get_or words (k / 64) 0) (k % 64))) (same_place k place e))
    (λ (ne : k / 64 ≡ place / 64 → ⊥).
    ap (λ w. bit_of w (k % 64)) (get_or-set_other words (place / 64) (k / 64) word 0 ne)
    ∙ sym (ap (λ t. cond t b (bit_of (get_or words (k / 64) 0) (k % 64))) (ne_eqb k place (λ e. ne (ap (λ v. v / 64) e)))))
    (cases_eq (k / 64) (place / 64))
  where
    same_place : (k place : ℕ) → k / 64 ≡ place / 64 → eqb (k % 64) (place % 64) ≡ eqb k place
    same_place k place e =
        ⊎_elim
        (λ (f : k % 64 ≡ place % 64). eq-eqb (k % 64) (place % 64) f ∙ sym (eq-eqb k place (omega arith)))
        (λ (nf : k % 64 ≡ place % 64 → ⊥). ne_eqb (k % 64) (place % 64) nf ∙ sym (ne_eqb k place (λ g. nf (ap (λ v. v % 64) g))))
        (cases_eq (k % 64) (place % 64))

-- words with no bit set are 0
pub zero_from_places : (words : List ℕ) → ((k : ℕ) → get_or words k 0 < 2 ^ 64) → ((place : ℕ) → bit_in words place ≡ false) → (k : ℕ) → get_or words k 0 ≡ 0
zero_from_places words fits none k =
    zero_from_bits (get_or words k 0) (fits k) (λ j h. sym (bit_in_word words k j h) ∙ none (k * 64 + j))

-- ---- the row
pub length-row_of : (n : ℕ) (words : List ℕ) → length (row_of n words) ≡ n
unfolding row_of
length-row_of n words = length-map-range_with_len (bit_in words) 0 n

pub get_or-row_of : (n : ℕ) (words : List ℕ) (i : ℕ) → i < n → get_or (row_of n words) i false ≡ bit_in words i
unfolding row_of
get_or-row_of n words i h = get_or-map-range_with_len (bit_in words) 0 n i i false h (omega arith)

-- a list with the bits of the words is their row
pub row_from_bits : (n : ℕ) (words : List ℕ) (row : List Bool) → length row ≡ n → ((i : ℕ) → i < n → get_or row i false ≡ bit_in words i) → row ≡ row_of n words
unfolding row_of
row_from_bits n words row long each = fill_by_all (bit_in words) row n false long each

pub row_of_zeros : (n : ℕ) (words : List ℕ) → ((i : ℕ) → i < n → bit_in words i ≡ false) → row_of n words ≡ replicate n false
row_of_zeros n words none =
    sym (row_from_bits n words (replicate n false) (length-replicate n false) (λ i h. get_or-replicate n i false false h ∙ sym (none i h)))

-- the row after one bit was put
pub row_of_put : (n : ℕ) (words others : List ℕ) (place : ℕ) (b : Bool) → place < n
    → ((k : ℕ) → bit_in others k ≡ cond (eqb k place) b (bit_in words k)) → row_of n others ≡ set (row_of n words) place b
row_of_put n words others place b within each =
    sym (row_from_bits n others (set (row_of n words) place b) (length-set (row_of n words) place b ∙ length-row_of n words) at)
  where
    at : (i : ℕ) → i < n → get_or (set (row_of n words) place b) i false ≡ bit_in others i
    at i h =
        at_place i place _ b (bit_in words i)
        (λ e. ap (λ v. get_or (set (row_of n words) place b) v false) e ∙ get_or-set_same (row_of n words) place b false (rw length-row_of within))
        (λ ne. get_or-set_other (row_of n words) place i b false ne ∙ get_or-row_of n words i h)
        ∙ sym (each i)

xor_of_maps : (f g : ℕ → Bool) (xs : List ℕ) → xor_rows (map f xs) (map g xs) ≡ map (λ i. exclusive_or (f i) (g i)) xs
xor_of_maps f g [] = refl
xor_of_maps f g (x ∷ xs) = ap (λ rest. exclusive_or (f x) (g x) ∷ rest) (xor_of_maps f g xs)

pub row_of_xor : (n : ℕ) (words first second : List ℕ) → ((k : ℕ) → get_or words k 0 ≡ bit_xor (get_or first k 0) (get_or second k 0))
    → row_of n words ≡ xor_rows (row_of n first) (row_of n second)
unfolding row_of
row_of_xor n words first second each =
    let both : ℕ → Bool = λ i. exclusive_or (bit_in first i) (bit_in second i) in
    fill_by_all both (row_of n words) n false (length-row_of n words) (λ i h. get_or-row_of n words i h ∙ bit_in-xor words first second each i)
    ∙ sym (xor_of_maps (bit_in first) (bit_in second) (range_with_len 0 n))

-- ---- the first set bit
pub first_one_is : (row : List Bool) (i : ℕ) → i < length row → get_or row i false ≡ true → ((k : ℕ) → k < i → get_or row k false ≡ false) → first_one_of row ≡ Some i
first_one_is [] i within is_set first = absurd (omega arith)
first_one_is (true ∷ row) zero within is_set first = refl
first_one_is (false ∷ row) zero within is_set first = cc
first_one_is (true ∷ row) (suc i) within is_set first = let e : true ≡ false = first 0 (omega arith) in cc
first_one_is (false ∷ row) (suc i) within is_set first =
    let rest : first_one_of row ≡ Some i = first_one_is row i (omega arith) is_set (λ k h. first (suc k) (omega arith)) in
    rw rest (ap Some (omega arith))

pub first_one_none : (row : List Bool) → ((k : ℕ) → k < length row → get_or row k false ≡ false) → first_one_of row ≡ None
first_one_none [] none = refl
first_one_none (true ∷ row) none = let e : true ≡ false = none 0 (omega arith) in cc
first_one_none (false ∷ row) none =
    let rest : first_one_of row ≡ None = first_one_none row (λ k h. none (suc k) (omega arith)) in
    rw rest refl

-- ---- words that hold a row, seen as the row
pub past_too : (words : List ℕ) → ((k : ℕ) → k < length words → get_or words k 0 ≡ 0) → (k : ℕ) → get_or words k 0 ≡ 0
past_too words zeros k = ⊎_elim (λ (h : k < length words). zeros k h) (λ (h : length words ≤ k). get_or_past words k 0 h) (cases_lt k (length words))

pub zeros_everywhere : (m k : ℕ) → get_or {A = ℕ} (replicate m 0) k 0 ≡ 0
zeros_everywhere m = past_too (replicate m 0) (λ k h. get_or-replicate m k 0 0 (omega (arith, length-replicate {A = ℕ} m 0)))

pub row_long : (n : ℕ) (words : List ℕ) (row : List Bool) → row_of n words ≡ row → length row ≡ n
row_long n words row seen = sym (ap length seen) ∙ length-row_of n words

pub word_within : (n : ℕ) (words : List ℕ) (i : ℕ) → HoldsRow n words → i < n → i / 64 < length words
word_within n words i held h = omega (arith, held.count)

pub words_few : (n : ℕ) (words : List ℕ) → HoldsRow n words → 64 * length words ≤ 2 ^ 64
words_few n words held = omega (arith, held.count, held.fits)

-- a slice written back into the whole of a vector
pub written : (n : ℕ) (new items : List ℕ) → length new ≡ n → take n (new ++ drop (length new) items) ≡ new
written n new items e = ap (λ v. take v (new ++ drop (length new) items)) (sym e) ∙ take-append_seam new (drop (length new) items)

pub held_after_put : (n : ℕ) (words others : List ℕ) (place : ℕ) (b : Bool) → HoldsRow n words → length others ≡ length words → place < n
    → ((k : ℕ) → bit_in others k ≡ cond (eqb k place) b (bit_in words k)) → HoldsRow n others
held_after_put n words others place b held long within each =
    record {
      fits = held.fits;
      count = long ∙ held.count;
      blank = λ i h. each i ∙ ap (λ t. cond t b (bit_in words i)) (ne_eqb i place (λ e. omega arith)) ∙ held.blank i h;
    }

pub held_after_xor : (n : ℕ) (words first second : List ℕ) → HoldsRow n first → HoldsRow n second → length words ≡ length first
    → ((k : ℕ) → get_or words k 0 ≡ bit_xor (get_or first k 0) (get_or second k 0)) → HoldsRow n words
held_after_xor n words first second held other long each =
    record {
      fits = held.fits;
      count = long ∙ held.count;
      blank = λ i h. bit_in-xor words first second each i ∙ ap (λ b. exclusive_or b (bit_in second i)) (held.blank i h) ∙ other.blank i h;
    }

pub held_zeros : (n m : ℕ) → n < 2 ^ 64 → m ≡ words_for n → HoldsRow n (replicate m 0)
held_zeros n m fits count =
    record {
      fits = fits;
      count = length-replicate m 0 ∙ count;
      blank = λ i h. bit_in_zeros (replicate m 0) (zeros_everywhere m) i;
    }

pub row_of_zero_words : (n m : ℕ) → row_of n (replicate m 0) ≡ replicate n false
row_of_zero_words n m = row_of_zeros n (replicate m 0) (λ i h. bit_in_zeros (replicate m 0) (zeros_everywhere m) i)

-- ---- what the search tells of the row
pub first_one_found : (row : List Bool) (found : Option ℕ) → IfNone found ((k : ℕ) → 0 ≤ k → AreZeroAt k row row)
    → IfSome found (λ i. (0 ≤ i) × (i < length row)) → IfSome found (λ i. (get_or row i false ≡ true) ⊎ (get_or row i false ≡ true))
    → IfSome found (λ i. (k : ℕ) → 0 ≤ k → k < i → AreZeroAt k row row) → found ≡ first_one_of row
first_one_found row None none within is_set before = sym (first_one_none row (λ k h. (none k (omega arith)).0))
first_one_found row (Some i) none within is_set before =
    sym (first_one_is row i within.1 (⊎_elim (λ e. e) (λ e. e) is_set) (λ k h. (before k (omega arith) h).0))

-- the bit to turn, named by its place in its word or in the row
pub turned : (words : List ℕ) (place j : ℕ)
    → cond (eqb j (place % 64)) (not (bit_of (get_or words (place / 64) 0) j)) (bit_of (get_or words (place / 64) 0) j)
    ≡ cond (eqb j (place % 64)) (not (bit_in words place)) (bit_of (get_or words (place / 64) 0) j)
unfolding bit_in
turned words place j =
    ⊎_elim
    (λ (e : j ≡ place % 64). ap (λ v. cond (eqb j (place % 64)) (not (bit_of (get_or words (place / 64) 0) v)) (bit_of (get_or words (place / 64) 0) j)) e)
    (λ (ne : j ≡ place % 64 → ⊥).
    ap (λ t. cond t (not (bit_of (get_or words (place / 64) 0) j)) (bit_of (get_or words (place / 64) 0) j)) (ne_eqb j (place % 64) ne)
    ∙ sym (ap (λ t. cond t (not (bit_of (get_or words (place / 64) 0) (place % 64))) (bit_of (get_or words (place / 64) 0) j)) (ne_eqb j (place % 64) ne)))
    (cases_eq j (place % 64))

-- what holds of a slice holds of the vector that it was lent by, once it is written back
pub rewritten : (P : List ℕ → Type 0) (len : ℕ) (old new items : List ℕ) → length old ≡ len → length new ≡ length old → P new
    → P (take len (new ++ drop (length new) items))
rewritten P len old new items e f h = subst P (sym (written len new items (f ∙ e))) h

-- ---- a vector's words as a slice, and two rows of one length
pub held_by_slice : (n m : ℕ) (slice items : List ℕ) → n ≡ m → slice ≡ items → HoldsRow m items → HoldsRow n slice
held_by_slice n m slice items e f held = subst (λ v. HoldsRow v slice) (sym e) (subst (HoldsRow m) (sym f) held)

pub seen_by_slice : (n m : ℕ) (slice items : List ℕ) (row : List Bool) → n ≡ m → slice ≡ items → row_of m items ≡ row → row_of n slice ≡ row
seen_by_slice n m slice items row e f seen = ap (λ v. row_of v slice) e ∙ ap (row_of m) f ∙ seen

pub same_places : (n m : ℕ) (words others : List ℕ) (row other : List Bool) → row_of n words ≡ row → row_of m others ≡ other → length row ≡ length other → n ≡ m
same_places n m words others row other seen seen' e = sym (row_long n words row seen) ∙ e ∙ row_long m others other seen'

pub same_length : (n : ℕ) (new words : List ℕ) (row : List Bool) → row_of n words ≡ row → length (row_of n new) ≡ length row
same_length n new words row seen = length-row_of n new ∙ sym (row_long n words row seen)
