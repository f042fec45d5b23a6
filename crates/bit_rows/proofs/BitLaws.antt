-- One bit of a word: of an exclusive or, of an and, and of a word with one bit set, cleared or turned. The number of
-- ones is the sum of the bits.
use Rattle.std.proofs.Common.{lit<, lit≤, add-one, ◌≡◌, ◌-◌, ℕ, zero, suc, ◌+◌, ◌*◌, ◌/◌, ◌%◌, ◌^◌, ◌<◌, ◌≤◌, Bool, true, false, not, cond, eqb, ◌&&◌, ◌||◌, min, max, refl, sym, ap, ◌∙◌, arith, bit_and, bit_or, bit_xor, ⊎_elim}
use Rattle.std.specs.Int.{bit_at, bit_not, w64, trailing_zeros}
use Rattle.std.specs.Int.Bits.{xor_add_and}
use Rattle.std.specs.Int.RustNames.{count_ones}
use Rattle.std.proofs.Math.Pow.{pow_mono}
use Rattle.std.proofs.lemmas.Bool.{cases_eq, cases_lt, eq-eqb, ne_eqb, true≢false}
use Rattle.std.proofs.lemmas.Nat.{pow_pos, ones_cat, ones_le_self, zero_from_ones, shr_below, shr-shr, one_shl, pow-add}
use Rattle.std.proofs.lemmas.Nat.Bits.{bit_at-lt, bit_at_and, bit_at_or, bit_at_not, bit_at_xor, bit_at-suc, bit_at_lowest, bit_at-pow_same, bit_at-pow_other, bit_at_set_same, bit_at_set_other, bit_at_clear_same, bit_at_clear_other, bit_at-zero, same_from_bits_below, shr_and_one, bit_at_ones, bit_at_mask_below, bit_at_mask_above, bit_at_above, bit_at-trailing_zeros}
use Rattle.bit_rows.specs.Rows.{exclusive_or}
use Rattle.bit_rows.specs.private.Totals.{total}
use Rattle.bit_rows.specs.private.Words.{bit_of}
use Rattle.bit_rows.specs.private.WordTotals.{value, word_ones}
use Rattle.bit_rows.proofs.Sums.{total_same, total_first, total_le}

bit_value : (a : ℕ) → a < 2 → a ≡ value (eqb a 1)
bit_value zero h = refl
bit_value (suc zero) h = refl
bit_value (suc (suc a)) h = absurd (omega arith)

pub bit_at_value : (word j : ℕ) → bit_at word j ≡ value (bit_of word j)
unfolding bit_of
bit_at_value word j = bit_value (bit_at word j) (bit_at-lt word j)

-- a function of two bits
on_bits : (f : ℕ → ℕ → ℕ) (g : Bool → Bool → Bool) → eqb (f 0 0) 1 ≡ g false false → eqb (f 0 1) 1 ≡ g false true → eqb (f 1 0) 1 ≡ g true false → eqb (f 1 1) 1 ≡ g true true
    → (a b : ℕ) → a < 2 → b < 2 → eqb (f a b) 1 ≡ g (eqb a 1) (eqb b 1)
on_bits f g none second first both zero zero p q = none
on_bits f g none second first both zero (suc zero) p q = second
on_bits f g none second first both (suc zero) zero p q = first
on_bits f g none second first both (suc zero) (suc zero) p q = both
on_bits f g none second first both (suc (suc a)) b p q = absurd (omega arith)
on_bits f g none second first both a (suc (suc b)) p q = absurd (omega arith)

pub sum_of_bits : (a b : ℕ) → a < 2 → b < 2 → eqb ((a + b) % 2) 1 ≡ exclusive_or (eqb a 1) (eqb b 1)
sum_of_bits = on_bits (λ a b. (a + b) % 2) exclusive_or refl refl refl refl

pub bit_of-xor : (x y j : ℕ) → bit_of (bit_xor x y) j ≡ exclusive_or (bit_of x j) (bit_of y j)
unfolding bit_of
bit_of-xor x y j = ap (λ v. eqb v 1) (bit_at_xor x y j) ∙ sum_of_bits (bit_at x j) (bit_at y j) (bit_at-lt x j) (bit_at-lt y j)

pub bit_of-and : (x y j : ℕ) → bit_of (bit_and x y) j ≡ (bit_of x j && bit_of y j)
unfolding bit_of
bit_of-and x y j = ap (λ v. eqb v 1) (bit_at_and x y j) ∙ on_bits min ◌&&◌ refl refl refl refl (bit_at x j) (bit_at y j) (bit_at-lt x j) (bit_at-lt y j)

pub bit_of-or : (x y j : ℕ) → bit_of (bit_or x y) j ≡ (bit_of x j || bit_of y j)
unfolding bit_of
bit_of-or x y j = ap (λ v. eqb v 1) (bit_at_or x y j) ∙ on_bits max ◌||◌ refl refl refl refl (bit_at x j) (bit_at y j) (bit_at-lt x j) (bit_at-lt y j)

other_bit : (a : ℕ) → a < 2 → eqb (1 - a) 1 ≡ not (eqb a 1)
other_bit zero h = refl
other_bit (suc zero) h = refl
other_bit (suc (suc a)) h = absurd (omega arith)

pub bit_of-not : (x j : ℕ) → x < 2 ^ 64 → j < 64 → bit_of (bit_not w64 x) j ≡ not (bit_of x j)
unfolding bit_of
bit_of-not x j fits h = ap (λ v. eqb v 1) (bit_at_not w64 x j fits h) ∙ other_bit (bit_at x j) (bit_at-lt x j)

pub bit_of-zero : (j : ℕ) → bit_of 0 j ≡ false
unfolding bit_of
bit_of-zero j = ap (λ v. eqb v 1) (bit_at-zero j)

-- the test `(word >> j) & 1 == 1`
pub bit_of_shift : (word j : ℕ) → eqb (bit_and (word / 2 ^ j) 1) 1 ≡ bit_of word j
unfolding bit_of
bit_of_shift word j = ap (λ v. eqb v 1) (shr_and_one word j)

-- `word >> j`
pub bit_of_later : (word j k : ℕ) → bit_of (word / 2 ^ j) k ≡ bit_of word (j + k)
unfolding bit_of
bit_of_later word j k =
    ap (λ v. eqb v 1) (sym (shr_and_one (word / 2 ^ j) k) ∙ ap (λ v. bit_and v 1) (shr-shr word j k) ∙ shr_and_one word (j + k))

one_of_four : (k : ℕ) → k < 4 → bit_of 15 k ≡ true
unfolding bit_of
one_of_four k h = ap (λ v. eqb v 1) (bit_at_ones 4 k h)

-- the ones of `15 << n`
pub four_ones : (n k : ℕ) → n ≤ 60 → bit_of (15 * 2 ^ n % 2 ^ 64) k ≡ true → (n ≤ k) × (k < n + 4)
unfolding bit_of
four_ones n k h set =
    let small : 2 ^ n ≤ 2 ^ 60 = pow_mono h in
    let next : 2 ^ (n + 4) ≡ 2 ^ n * 16 = pow-add 2 n 4 in
    let mask : 15 * 2 ^ n % 2 ^ 64 ≡ 2 ^ (n + 4) - 2 ^ n = omega (arith, small, next) in
    let none : bit_at (2 ^ (n + 4) - 2 ^ n) k ≡ 0 → ⊥ = λ e. let c : true ≡ false = sym set ∙ ap (λ v. eqb (bit_at v k) 1) mask ∙ ap (λ v. eqb v 1) e in cc in
    ⊎_elim
    (λ (low : k < n). absurd (none (bit_at_mask_below n (n + 4) k low)))
    (λ (from : n ≤ k).
    ⊎_elim
    (λ (below : k < n + 4). (from, below))
    (λ (high : n + 4 ≤ k). absurd (none (bit_at_mask_above n (n + 4) k high)))
    (cases_lt k (n + 4)))
    (cases_lt k n)

and_with_true : (a b : Bool) → b ≡ true → (a && b) ≡ false → a ≡ false
and_with_true true b e n = sym e ∙ n
and_with_true false b e n = refl

-- where `word & 1 << k` is less than `1 << k`, bit k isn't set
pub unset_below : (word k : ℕ) → bit_and word (2 ^ k) < 2 ^ k → bit_of word k ≡ false
unfolding bit_of
unset_below word k small =
    and_with_true (bit_of word k) (bit_of (2 ^ k) k) (ap (λ v. eqb v 1) (bit_at-pow_same k))
    (sym (bit_of-and word (2 ^ k) k) ∙ ap (λ v. eqb v 1) (bit_at_above (bit_and word (2 ^ k)) k k small (omega arith)))

-- where `word & 15` is 0, so are the four lowest bits
pub none_of_four : (word k : ℕ) → k < 4 → bit_and word 15 ≡ 0 → bit_of word k ≡ false
none_of_four word k h none =
    and_with_true (bit_of word k) (bit_of 15 k) (one_of_four k h) (sym (bit_of-and word 15 k) ∙ ap (λ v. bit_of v k) none ∙ bit_of-zero k)

-- a word below 2 ^ 64 whose 64 bits are 0 is 0
pub zero_from_bits : (word : ℕ) → word < 2 ^ 64 → ((j : ℕ) → j < 64 → bit_of word j ≡ false) → word ≡ 0
zero_from_bits word fits none =
    same_from_bits_below 64 word 0 fits (lit< tt)
    (λ j h. bit_at_value word j ∙ ap value (none j h) ∙ sym (bit_at-zero j))

-- what is x at a place and y at any other
pub at_place : (j k : ℕ) (v x y : Bool) → (j ≡ k → v ≡ x) → ((j ≡ k → ⊥) → v ≡ y) → v ≡ cond (eqb j k) x y
at_place j k v x y here other =
    ⊎_elim
    (λ e. here e ∙ sym (ap (λ t. cond t x y) (eq-eqb j k e)))
    (λ ne. other ne ∙ sym (ap (λ t. cond t x y) (ne_eqb j k ne)))
    (cases_eq j k)

-- `word | 1 << k`
pub bit_of_put : (word k j : ℕ) → k < 64 → bit_of (bit_or word (1 * 2 ^ k % 2 ^ 64)) j ≡ cond (eqb j k) true (bit_of word j)
unfolding bit_of
bit_of_put word k j within =
    at_place j k _ true (bit_of word j)
    (λ e. ap (λ v. eqb v 1) (ap (bit_at (bit_or word (1 * 2 ^ k % 2 ^ 64))) e ∙ bit_at_set_same w64 word k within))
    (λ ne. ap (λ v. eqb v 1) (bit_at_set_other w64 word k within j ne))

-- `word & !(1 << k)`
pub bit_of_take : (word k j : ℕ) → k < 64 → j < 64 → bit_of (bit_and word (bit_not w64 (1 * 2 ^ k % 2 ^ 64))) j ≡ cond (eqb j k) false (bit_of word j)
unfolding bit_of
bit_of_take word k j within below =
    at_place j k _ false (bit_of word j)
    (λ e. ap (λ v. eqb v 1) (ap (bit_at (bit_and word (bit_not w64 (1 * 2 ^ k % 2 ^ 64)))) e ∙ bit_at_clear_same w64 word k within))
    (λ ne. ap (λ v. eqb v 1) (bit_at_clear_other w64 word k within j below ne))

-- `1 << k`
bit_of_one : (k j : ℕ) → k < 64 → bit_of (1 * 2 ^ k % 2 ^ 64) j ≡ eqb j k
unfolding bit_of
bit_of_one k j within =
    ap (λ v. eqb (bit_at v j) 1) (one_shl k 64 within)
    ∙ ⊎_elim
    (λ e. ap (λ v. eqb v 1) (ap (λ v. bit_at (2 ^ k) v) e ∙ bit_at-pow_same k) ∙ sym (eq-eqb j k e))
    (λ ne. ap (λ v. eqb v 1) (bit_at-pow_other k j ne) ∙ sym (ne_eqb j k ne))
    (cases_eq j k)

turned_where : (b t : Bool) → exclusive_or b t ≡ cond t (not b) b
turned_where true true = refl
turned_where true false = refl
turned_where false true = refl
turned_where false false = refl

-- `word ^ 1 << k`
pub bit_of_flip : (word k j : ℕ) → k < 64 → bit_of (bit_xor word (1 * 2 ^ k % 2 ^ 64)) j ≡ cond (eqb j k) (not (bit_of word j)) (bit_of word j)
bit_of_flip word k j within =
    bit_of-xor word (1 * 2 ^ k % 2 ^ 64) j ∙ ap (exclusive_or (bit_of word j)) (bit_of_one k j within) ∙ turned_where (bit_of word j) (eqb j k)

-- where bit k is set, `word ^ 1 << k` is less
pub less_without : (word k : ℕ) → k < 64 → bit_of word k ≡ true → bit_xor word (1 * 2 ^ k % 2 ^ 64) < word
less_without word k within set =
    let mask : 1 * 2 ^ k % 2 ^ 64 ≡ 2 ^ k = one_shl k 64 within in
    let some : 0 < 2 ^ k = pow_pos k in
    ⊎_elim
    (λ (small : bit_and word (2 ^ k) < 2 ^ k). absurd (true≢false (sym set ∙ unset_below word k small)))
    (λ (large : 2 ^ k ≤ bit_and word (2 ^ k)).
    let less : bit_xor word (2 ^ k) < word = omega (arith, xor_add_and word (2 ^ k), large, some) in
    rw mask less)
    (cases_lt (bit_and word (2 ^ k)) (2 ^ k))

ones_of_bit : (a : ℕ) → a < 2 → count_ones a ≡ a
ones_of_bit zero h = omega (arith, ones_le_self 0)
ones_of_bit (suc zero) h =
    ⊎_elim (λ e. absurd (omega (arith, zero_from_ones 1 e))) (λ ne. omega (arith, ones_le_self 1, ne)) (cases_eq (count_ones 1) 0)
ones_of_bit (suc (suc a)) h = absurd (omega arith)

-- the number of ones is the sum of the bits
pub ones_are_total : (k n : ℕ) → n < 2 ^ k → count_ones n ≡ total (λ j. bit_at n j) k
unfolding total
ones_are_total zero n h = omega (arith, ones_le_self n)
ones_are_total (suc k) n h =
    let half : n / 2 < 2 ^ k = shr_below n k 1 (rw (add-one k) h) in
    let low : n % 2 < 2 = omega arith in
    let cut : count_ones (n / 2 * 2 + n % 2) ≡ count_ones (n / 2) + count_ones (n % 2) = ones_cat 1 (n / 2) (n % 2) low in
    let whole : n / 2 * 2 + n % 2 ≡ n = omega arith in
    let later : total (λ j. bit_at n (suc j)) k ≡ total (λ j. bit_at (n / 2) j) k = total_same (λ j. bit_at n (suc j)) (λ j. bit_at (n / 2) j) k (λ j h. bit_at-suc n j) in
    omega (arith, ap count_ones whole, cut, ones_of_bit (n % 2) low, ones_are_total k (n / 2) half, later, total_first (λ j. bit_at n j) k, bit_at_lowest n)

-- the same of a word, by the tests of its bits
pub ones_by_bits : (word : ℕ) → word < 2 ^ 64 → count_ones word ≡ word_ones word
unfolding word_ones
ones_by_bits word fits = ones_are_total 64 word fits ∙ total_same (λ j. bit_at word j) (λ j. value (bit_of word j)) 64 (λ j h. bit_at_value word j)

pub word_ones_le : (word : ℕ) → word_ones word ≤ 64
unfolding word_ones
word_ones_le word = total_le 1 (λ j. value (bit_of word j)) 64 (λ j h. value_le (bit_of word j))
  where
    value_le : (b : Bool) → value b ≤ 1
    value_le true = lit≤ tt
    value_le false = lit≤ tt

-- the lowest set bit of a word that is not 0
pub lowest_bit : (word : ℕ) → 0 < word → word < 2 ^ 64
    → (trailing_zeros w64 word < 64) × (bit_of word (trailing_zeros w64 word) ≡ true) × ((j : ℕ) → j < trailing_zeros w64 word → bit_of word j ≡ false)
unfolding bit_of
lowest_bit word some fits =
    let low = bit_at-trailing_zeros w64 word some fits in
    (low.0, ap (λ v. eqb v 1) low.1, λ j h. ap (λ v. eqb v 1) (low.2 j h))
