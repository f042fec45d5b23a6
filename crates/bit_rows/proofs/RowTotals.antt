-- What the words of rows count is what the rows say: sums over the places of a row, and over the bits of its words.
use Rattle.std.proofs.Common.{lit<, add-one, ◌≡◌, ℕ, zero, suc, ◌+◌, ◌*◌, ◌%◌, ◌^◌, ◌-◌, ◌<◌, ◌≤◌, List, map, length, get_or, Bool, true, false, ◌&&◌, eqb, refl, sym, ap, ◌∙◌, arith}
use Rattle.std.specs.Prelude.{count_by}
use Rattle.std.specs.List.{range_with_len}
use Rattle.std.proofs.lemmas.List.FromFn.{sum_by-map-range_with_len_more}
use Rattle.std.proofs.lemmas.List.Sums.{count_by-le-length}
use Rattle.std.proofs.Math.Nat.{add-mod-mod}
use Rattle.bit_rows.specs.Rows.{exclusive_or, and_parity_of, letter_phase, phase_sum, phase_of}
use Rattle.bit_rows.specs.private.Totals.{total}
use Rattle.bit_rows.specs.private.Words.{bit_of, bit_in, row_of, HoldsRow}
use Rattle.bit_rows.specs.private.WordTotals.{value, word_ones, ones_of, word_common, common_ones, word_phase, words_phase}
use Rattle.bit_rows.proofs.BitLaws.{sum_of_bits}
use Rattle.bit_rows.proofs.Places.{bit_in_word, row_long}
use Rattle.bit_rows.proofs.Sums.{total_same, total_first, total-split, total-blocks, total_blank}

value_lt : (b : Bool) → value b < 2
value_lt true = lit< tt
value_lt false = lit< tt

value_test : (b : Bool) → eqb (value b) 1 ≡ b
value_test true = refl
value_test false = refl

odd_more : (b : Bool) (t : ℕ) → exclusive_or b (eqb (t % 2) 1) ≡ eqb ((value b + t) % 2) 1
odd_more b t =
    sym (ap (λ v. eqb v 1) (sym (add-mod-mod (value b) t 2)) ∙ sum_of_bits (value b) (t % 2) (value_lt b) (omega arith)
    ∙ ap (λ v. exclusive_or v (eqb (t % 2) 1)) (value_test b))

parity_of_maps : (f g : ℕ → Bool) (a n : ℕ)
    → and_parity_of (map f (range_with_len a n)) (map g (range_with_len a n)) ≡ eqb (total (λ i. value (f (a + i) && g (a + i))) n % 2) 1
unfolding total
parity_of_maps f g a zero = refl
parity_of_maps f g a (suc n) =
    let both : ℕ → ℕ = λ i. value (f (a + i) && g (a + i)) in
    let later : total (λ i. value (f (a + 1 + i) && g (a + 1 + i))) n ≡ total (λ i. both (suc i)) n =
    total_same (λ i. value (f (a + 1 + i) && g (a + 1 + i))) (λ i. both (suc i)) n (λ i h. let e : a + 1 + i ≡ a + suc i = omega arith in ap (λ v. value (f v && g v)) e) in
    let here : value (f a && g a) ≡ both 0 = let e : a ≡ a + 0 = omega arith in ap (λ v. value (f v && g v)) e in
    ap (exclusive_or (f a && g a)) (parity_of_maps f g (a + 1) n)
    ∙ odd_more (f a && g a) (total (λ i. value (f (a + 1 + i) && g (a + 1 + i))) n)
    ∙ ap (λ s. eqb (s % 2) 1) (ap (λ s. value (f a && g a) + s) later ∙ ap (λ s. s + total (λ i. both (suc i)) n) here ∙ sym (total_first both n))

phase_of_maps : (xa za xb zb : ℕ → Bool) (a n : ℕ)
    → phase_sum (map xa (range_with_len a n)) (map za (range_with_len a n)) (map xb (range_with_len a n)) (map zb (range_with_len a n))
    ≡ total (λ i. letter_phase (xa (a + i)) (za (a + i)) (xb (a + i)) (zb (a + i))) n
unfolding total
phase_of_maps xa za xb zb a zero = refl
phase_of_maps xa za xb zb a (suc n) =
    let power : ℕ → ℕ = λ i. letter_phase (xa i) (za i) (xb i) (zb i) in
    let later : total (λ i. power (a + 1 + i)) n ≡ total (λ i. power (a + suc i)) n =
    total_same (λ i. power (a + 1 + i)) (λ i. power (a + suc i)) n (λ i h. let e : a + 1 + i ≡ a + suc i = omega arith in ap power e) in
    let here : power a ≡ power (a + 0) = let e : a ≡ a + 0 = omega arith in ap power e in
    ap (λ s. power a + s) (phase_of_maps xa za xb zb (a + 1) n ∙ later) ∙ ap (λ s. s + total (λ i. power (a + suc i)) n) here ∙ sym (total_first (λ i. power (a + i)) n)

count_of_map : (f : ℕ → Bool) (n : ℕ) → count_by (λ b. b) (map f (range_with_len 0 n)) ≡ total (λ i. value (f i)) n
unfolding total
count_of_map f zero = refl
count_of_map f (suc n) =
    ap (λ m. count_by (λ b. b) (map f (range_with_len 0 m))) (sym (add-one n))
    ∙ sum_by-map-range_with_len_more value f 0 n n (omega arith)
    ∙ ap (λ s. s + value (f n)) (count_of_map f n)

-- ---- the bits of all words, in one sum
ones_in_places : (words : List ℕ) (n : ℕ) → ones_of words n ≡ total (λ i. value (bit_in words i)) (n * 64)
unfolding ones_of word_ones
ones_in_places words n =
    sym (total-blocks (λ i. value (bit_in words i)) 64 n
    ∙ total_same (λ k. total (λ j. value (bit_in words (k * 64 + j))) 64) (λ k. word_ones (get_or words k 0)) n
    (λ k h. total_same (λ j. value (bit_in words (k * 64 + j))) (λ j. value (bit_of (get_or words k 0) j)) 64 (λ j l. ap value (bit_in_word words k j l))))

common_by_bits : (first second : List ℕ) (n : ℕ) → common_ones first second n ≡ total (λ i. value (bit_in first i && bit_in second i)) (n * 64)
unfolding common_ones word_common
common_by_bits first second n =
    sym (total-blocks (λ i. value (bit_in first i && bit_in second i)) 64 n
    ∙ total_same (λ k. total (λ j. value (bit_in first (k * 64 + j) && bit_in second (k * 64 + j))) 64) (λ k. word_common (get_or first k 0) (get_or second k 0)) n
    (λ k h. total_same (λ j. value (bit_in first (k * 64 + j) && bit_in second (k * 64 + j))) (λ j. value (bit_of (get_or first k 0) j && bit_of (get_or second k 0) j)) 64
    (λ j l. ap (λ b. value (b && bit_in second (k * 64 + j))) (bit_in_word first k j l) ∙ ap (λ b. value (bit_of (get_or first k 0) j && b)) (bit_in_word second k j l))))

phase_by_bits : (xa za xb zb : List ℕ) (n : ℕ)
    → words_phase xa za xb zb n ≡ total (λ i. letter_phase (bit_in xa i) (bit_in za i) (bit_in xb i) (bit_in zb i)) (n * 64)
unfolding words_phase word_phase
phase_by_bits xa za xb zb n =
    sym (total-blocks (λ i. letter_phase (bit_in xa i) (bit_in za i) (bit_in xb i) (bit_in zb i)) 64 n
    ∙ total_same (λ k. total (λ j. letter_phase (bit_in xa (k * 64 + j)) (bit_in za (k * 64 + j)) (bit_in xb (k * 64 + j)) (bit_in zb (k * 64 + j))) 64)
    (λ k. word_phase (get_or xa k 0) (get_or za k 0) (get_or xb k 0) (get_or zb k 0)) n
    (λ k h. total_same (λ j. letter_phase (bit_in xa (k * 64 + j)) (bit_in za (k * 64 + j)) (bit_in xb (k * 64 + j)) (bit_in zb (k * 64 + j)))
    (λ j. letter_phase (bit_of (get_or xa k 0) j) (bit_of (get_or za k 0) j) (bit_of (get_or xb k 0) j) (bit_of (get_or zb k 0) j)) 64
    (λ j l. simp (bit_in_word xa k j l, bit_in_word za k j l, bit_in_word xb k j l, bit_in_word zb k j l))))

-- ---- the ones of one word more
pub ones_of-none : (words : List ℕ) → ones_of words 0 ≡ 0
unfolding ones_of total
ones_of-none words = refl

pub ones_of-more : (words : List ℕ) (n : ℕ) → ones_of words (n + 1) ≡ ones_of words n + word_ones (get_or words n 0)
unfolding ones_of total
ones_of-more words n = let e : n + 1 ≡ suc n = omega arith in ap (ones_of words) e

pub ones_of-le : (words : List ℕ) (m n : ℕ) → m ≤ n → ones_of words m ≤ ones_of words n
unfolding ones_of
ones_of-le words m n le =
    let e : m + (n - m) ≡ n = omega (arith, le) in
    omega (arith, total-split (λ k. word_ones (get_or words k 0)) m (n - m), ap (ones_of words) e)

-- ---- rows held by words
pub count_of_row : (n : ℕ) (words : List ℕ) (row : List Bool) → HoldsRow n words → row_of n words ≡ row → ones_of words (length words) ≡ count_by (λ b. b) row
unfolding row_of
count_of_row n words row held e =
    let blank : total (λ i. value (bit_in words i)) (length words * 64) ≡ total (λ i. value (bit_in words i)) n =
    total_blank (λ i. value (bit_in words i)) n (length words * 64) (omega (arith, held.count)) (λ i h. ap value (held.blank i h)) in
    ones_in_places words (length words) ∙ blank ∙ sym (count_of_map (bit_in words) n) ∙ ap (count_by (λ b. b)) e

-- so the sum fits
pub ones_fit : (n : ℕ) (words : List ℕ) (row : List Bool) → HoldsRow n words → row_of n words ≡ row → ones_of words (length words) < 2 ^ 64
ones_fit n words row held e =
    omega (arith, count_of_row n words row held e, count_by-le-length (λ b. b) row, row_long n words row e, held.fits)

pub parity_of_rows : (n : ℕ) (first second : List ℕ) (p q : List Bool) → HoldsRow n first → row_of n first ≡ p → row_of n second ≡ q
    → eqb (common_ones first second (length first) % 2) 1 ≡ and_parity_of p q
unfolding row_of
parity_of_rows n first second p q held e f =
    let blank : total (λ i. value (bit_in first i && bit_in second i)) (length first * 64) ≡ total (λ i. value (bit_in first i && bit_in second i)) n =
    total_blank (λ i. value (bit_in first i && bit_in second i)) n (length first * 64) (omega (arith, held.count)) (λ i h. ap (λ b. value (b && bit_in second i)) (held.blank i h)) in
    let same : total (λ i. value (bit_in first i && bit_in second i)) n ≡ total (λ i. value (bit_in first (0 + i) && bit_in second (0 + i))) n =
    total_same _ _ n (λ i h. let z : i ≡ 0 + i = omega arith in ap (λ v. value (bit_in first v && bit_in second v)) z) in
    ap (λ s. eqb (s % 2) 1) (common_by_bits first second (length first) ∙ blank ∙ same)
    ∙ sym (parity_of_maps (bit_in first) (bit_in second) 0 n)
    ∙ ap (λ row. and_parity_of row (map (bit_in second) (range_with_len 0 n))) e
    ∙ ap (and_parity_of p) f

pub phase_of_rows : (n : ℕ) (xa za xb zb : List ℕ) (p q r s : List Bool) → HoldsRow n xa → HoldsRow n za → HoldsRow n xb → HoldsRow n zb
    → row_of n xa ≡ p → row_of n za ≡ q → row_of n xb ≡ r → row_of n zb ≡ s
    → words_phase xa za xb zb (length xa) % 4 ≡ phase_of p q r s
unfolding row_of
phase_of_rows n xa za xb zb p q r s hxa hza hxb hzb ep eq er es =
    let power : ℕ → ℕ = λ i. letter_phase (bit_in xa i) (bit_in za i) (bit_in xb i) (bit_in zb i) in
    let blank : total power (length xa * 64) ≡ total power n =
    total_blank power n (length xa * 64) (omega (arith, hxa.count))
    (λ i h. simp (hxa.blank i h, hza.blank i h, hxb.blank i h, hzb.blank i h)) in
    let same : total power n ≡ total (λ i. power (0 + i)) n = total_same power (λ i. power (0 + i)) n (λ i h. let z : i ≡ 0 + i = omega arith in ap power z) in
    let rows : phase_sum (row_of n xa) (row_of n za) (row_of n xb) (row_of n zb) ≡ phase_sum p q r s = rw (ep, eq, er, es) refl in
    ap (λ t. t % 4) (phase_by_bits xa za xb zb (length xa) ∙ blank ∙ same ∙ sym (phase_of_maps (bit_in xa) (bit_in za) (bit_in xb) (bit_in zb) 0 n) ∙ rows)
