-- The first set bit of a word from a bit on, and the first place from a place on with a set bit in one of two lists of words.
use Rattle.std.proofs.Common.{◌≡◌, ℕ, ◌+◌, ◌-◌, ◌*◌, ◌/◌, ◌%◌, ◌^◌, ◌<◌, ◌≤◌, ◌||◌, ◌⊎◌, inl, inr, List, Bool, true, false, Option, Some, None, eqb, length, get_or, refl, sym, ap, ◌∙◌, arith, bit_or, ⊎_elim}
use Rattle.std.specs.Int.{w64, trailing_zeros}
use Rattle.std.specs.Option.{IfNone, IfSome}
use Rattle.std.proofs.lemmas.Bool.{cases_lt, true≢false}
use Rattle.std.proofs.lemmas.List.{get_or_past}
use Rattle.std.proofs.lemmas.Nat.Bits.{bit_at_above}
use Rattle.bit_rows.specs.Rows.{AreZeroAt}
use Rattle.bit_rows.specs.private.Multiplied.{MarksBoth}
use Rattle.bit_rows.specs.private.Words.{bit_of, bit_in, row_of, HoldsRow}
use Rattle.bit_rows.proofs.BitLaws.{bit_of-or, bit_of-zero, bit_of_later, lowest_bit}
use Rattle.bit_rows.proofs.Places.{bit_in_is, get_or-row_of, row_long}

-- bit j of a word, seen after the bits below `start` were shifted out
moved : (word start j : ℕ) → start ≤ j → bit_of word j ≡ bit_of (word / 2 ^ start) (j - start)
moved word start j h =
    let e : j ≡ start + (j - start) = omega (arith, h) in
    ap (bit_of word) e ∙ sym (bit_of_later word start (j - start))

pub none_from : (word start : ℕ) → word / 2 ^ start ≡ 0 → (j : ℕ) → start ≤ j → bit_of word j ≡ false
none_from word start none j h = moved word start j h ∙ (ap (λ v. bit_of v (j - start)) none ∙ bit_of-zero (j - start))

-- a word below 2 ^ 64 has no bit past 63
within_word : (word j : ℕ) → word < 2 ^ 64 → bit_of word j ≡ true → j < 64
unfolding bit_of
within_word word j fits set =
    ⊎_elim (λ (h : j < 64). h) (λ (h : 64 ≤ j). absurd (true≢false (sym set ∙ ap (λ v. eqb v 1) (bit_at_above word 64 j fits h)))) (cases_lt j 64)

-- the lowest set bit of what is left above
pub bit_from : (word start : ℕ) → word < 2 ^ 64 → 0 < word / 2 ^ start → word / 2 ^ start < 2 ^ 64
    → (start + trailing_zeros w64 (word / 2 ^ start) < 64) × (bit_of word (start + trailing_zeros w64 (word / 2 ^ start)) ≡ true)
    × ((j : ℕ) → start ≤ j → j < start + trailing_zeros w64 (word / 2 ^ start) → bit_of word j ≡ false)
bit_from word start fits some later_fits =
    let low = lowest_bit (word / 2 ^ start) some later_fits in
    let set : bit_of word (start + trailing_zeros w64 (word / 2 ^ start)) ≡ true = sym (bit_of_later word start (trailing_zeros w64 (word / 2 ^ start))) ∙ low.1 in
    (within_word word _ fits set, set, λ j h below. moved word start j h ∙ low.2 (j - start) (omega (arith, h, below)))

neither : (a b : Bool) → (a || b) ≡ false → (a ≡ false) × (b ≡ false)
neither true b e = absurd (true≢false e)
neither false b e = (refl, e)

one_of : (a b : Bool) → (a || b) ≡ true → (a ≡ true) ⊎ (b ≡ true)
one_of true b e = inl refl
one_of false b e = inr e

-- a place of two lists, by the bit of the words there
pub neither_in : (first second : List ℕ) (i j k : ℕ) → k / 64 ≡ i → k % 64 ≡ j → bit_of (bit_or (get_or first i 0) (get_or second i 0)) j ≡ false
    → (bit_in first k ≡ false) × (bit_in second k ≡ false)
neither_in first second i j k at bit none =
    let both = neither _ _ (sym (bit_of-or (get_or first i 0) (get_or second i 0) j) ∙ none) in
    (here first ∙ both.0, here second ∙ both.1)
  where
    here : (words : List ℕ) → bit_in words k ≡ bit_of (get_or words i 0) j
    here words = bit_in_is words k ∙ (ap (λ v. bit_of (get_or words v 0) (k % 64)) at ∙ ap (bit_of (get_or words i 0)) bit)

pub one_in : (first second : List ℕ) (i j k : ℕ) → k / 64 ≡ i → k % 64 ≡ j → bit_of (bit_or (get_or first i 0) (get_or second i 0)) j ≡ true
    → (bit_in first k ≡ true) ⊎ (bit_in second k ≡ true)
one_in first second i j k at bit set =
    ⊎_elim (λ e. inl (here first ∙ e)) (λ e. inr (here second ∙ e)) (one_of _ _ (sym (bit_of-or (get_or first i 0) (get_or second i 0) j) ∙ set))
  where
    here : (words : List ℕ) → bit_in words k ≡ bit_of (get_or words i 0) j
    here words = bit_in_is words k ∙ (ap (λ v. bit_of (get_or words v 0) (k % 64)) at ∙ ap (bit_of (get_or words i 0)) bit)

-- the places of a word before bit `high`, after those before bit `low`
pub none_before : (first second : List ℕ) (start i low high : ℕ) → high ≤ 64
    → ((k : ℕ) → start ≤ k → k < 64 * i + low → (bit_in first k ≡ false) × (bit_in second k ≡ false))
    → ((j : ℕ) → low ≤ j → j < high → bit_of (bit_or (get_or first i 0) (get_or second i 0)) j ≡ false)
    → (k : ℕ) → start ≤ k → k < 64 * i + high → (bit_in first k ≡ false) × (bit_in second k ≡ false)
none_before first second start i low high short before none k h below =
    ⊎_elim
    (λ (e : k < 64 * i + low). before k h e)
    (λ (e : 64 * i + low ≤ k). neither_in first second i (k % 64) k (omega arith) refl (none (k % 64) (omega arith) (omega arith)))
    (cases_lt k (64 * i + low))

-- the places of words without marks, after those before word i
pub none_unmarked : (first second : List ℕ) (marks start i next : ℕ) → MarksBoth marks first second
    → ((k : ℕ) → i ≤ k → k < next → (k < 64) × (bit_of marks k ≡ false))
    → ((k : ℕ) → start ≤ k → k < 64 * i → (bit_in first k ≡ false) × (bit_in second k ≡ false))
    → (k : ℕ) → start ≤ k → k < 64 * next → (bit_in first k ≡ false) × (bit_in second k ≡ false)
none_unmarked first second marks start i next both unmarked before k h below =
    ⊎_elim
    (λ (e : k < 64 * i). before k h e)
    (λ (e : 64 * i ≤ k).
    let none = unmarked (k / 64) (omega arith) (omega arith) in
    (both.of_x.blank k none.0 none.1, both.of_z.blank k none.0 none.1))
    (cases_lt k (64 * i))

-- past both lists no bit is set
pub none_past : (first second : List ℕ) (start i low : ℕ) → length second ≡ length first → length first ≤ i
    → ((k : ℕ) → start ≤ k → k < 64 * i + low → (bit_in first k ≡ false) × (bit_in second k ≡ false))
    → (k : ℕ) → start ≤ k → (bit_in first k ≡ false) × (bit_in second k ≡ false)
none_past first second start i low long end before k h =
    ⊎_elim
    (λ (e : k < 64 * i + low). before k h e)
    (λ (e : 64 * i + low ≤ k). (past first (omega arith), past second (omega (arith, long))))
    (cases_lt k (64 * i + low))
  where
    past : (words : List ℕ) → length words ≤ k / 64 → bit_in words k ≡ false
    past words far = bit_in_is words k ∙ (ap (λ v. bit_of v (k % 64)) (get_or_past words (k / 64) 0 far) ∙ bit_of-zero (k % 64))

-- ---- the same of the rows that the lists hold
pub bit_seen : (n : ℕ) (words : List ℕ) (row : List Bool) → HoldsRow n words → row_of n words ≡ row → (k : ℕ) → get_or row k false ≡ bit_in words k
bit_seen n words row held seen k =
    ⊎_elim
    (λ (h : k < n). ap (λ v. get_or v k false) (sym seen) ∙ get_or-row_of n words k h)
    (λ (h : n ≤ k). get_or_past row k false (omega (arith, row_long n words row seen)) ∙ sym (held.blank k h))
    (cases_lt k n)

module _ (n m : ℕ) (first second : List ℕ) (p q : List Bool) (first_held : HoldsRow n first) (second_held : HoldsRow m second) (first_seen : row_of n first ≡ p) (second_seen : row_of m second ≡ q) where
  zero_seen : (k : ℕ) → (bit_in first k ≡ false) × (bit_in second k ≡ false) → AreZeroAt k p q
  zero_seen k none = (bit_seen n first p first_held first_seen k ∙ none.0, bit_seen m second q second_held second_seen k ∙ none.1)

  pub none_seen : (start : ℕ) (found : Option ℕ) → IfNone found ((k : ℕ) → start ≤ k → (bit_in first k ≡ false) × (bit_in second k ≡ false))
      → IfNone found ((k : ℕ) → start ≤ k → AreZeroAt k p q)
  none_seen start None none = λ k h. zero_seen k (none k h)
  none_seen start (Some i) none = none

  pub one_seen : (found : Option ℕ) → IfSome found (λ i. (bit_in first i ≡ true) ⊎ (bit_in second i ≡ true))
      → IfSome found (λ i. (get_or p i false ≡ true) ⊎ (get_or q i false ≡ true))
  one_seen None set = set
  one_seen (Some i) set = ⊎_elim (λ e. inl (bit_seen n first p first_held first_seen i ∙ e)) (λ e. inr (bit_seen m second q second_held second_seen i ∙ e)) set

  pub before_seen : (start : ℕ) (found : Option ℕ) → IfSome found (λ i. (k : ℕ) → start ≤ k → k < i → (bit_in first k ≡ false) × (bit_in second k ≡ false))
      → IfSome found (λ i. (k : ℕ) → start ≤ k → k < i → AreZeroAt k p q)
  before_seen start None none = none
  before_seen start (Some i) none = λ k h below. zero_seen k (none k h below)

  pub within_seen : (start : ℕ) (found : Option ℕ) → length p ≡ length q → IfSome found (λ i. start ≤ i)
      → IfSome found (λ i. (bit_in first i ≡ true) ⊎ (bit_in second i ≡ true)) → IfSome found (λ i. (start ≤ i) × (i < length p))
  within_seen start None long after set = set
  within_seen start (Some i) long after set =
      let p_long = row_long n first p first_seen in
      let q_long = row_long m second q second_seen in
      let below : i < n = ⊎_elim (λ e. inside n first i first_held e) (λ e. omega (arith, inside m second i second_held e, p_long, q_long, long)) set in
      (after, omega (arith, below, p_long))
    where
      inside : (l : ℕ) (words : List ℕ) (i : ℕ) → HoldsRow l words → bit_in words i ≡ true → i < l
      inside l words i held e = ⊎_elim (λ (h : i < l). h) (λ (h : l ≤ i). absurd (true≢false (sym e ∙ held.blank i h))) (cases_lt i l)
