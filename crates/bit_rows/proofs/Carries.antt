-- The steps of the loops over words: a word added to a running exclusive or, and the powers of i of 64 letters added to
-- two carry words.
use Rattle.std.proofs.Common.{◌≡◌, ℕ, suc, ◌+◌, ◌*◌, ◌%◌, ◌^◌, ◌<◌, ◌≤◌, Bool, true, false, ◌&&◌, eqb, refl, sym, ap, ap₂, ◌∙◌, arith, bit_and, bit_xor, get_or, List, [], ◌∷◌, length, replicate, add-one}
use Rattle.std.specs.Int.RustNames.{count_ones}
use Rattle.std.specs.Simd.Lanes.{zip2, chunk, fold_l}
use Rattle.std.proofs.lemmas.Bool.{and_parts, eqb-true}
use Rattle.std.proofs.lemmas.Simd.{length-chunk, get_or-chunk, length-zip2, get_or-zip2}
use Rattle.bit_rows.specs.Rows.{exclusive_or, letter_phase}
use Rattle.bit_rows.specs.private.Totals.{total}
use Rattle.bit_rows.specs.private.Words.{bit_of}
use Rattle.bit_rows.specs.private.WordTotals.{value, word_ones, ones_of, word_common, common_ones, word_phase, words_phase, carried}
use Rattle.bit_rows.proofs.BitLaws.{bit_of-xor, bit_of-and, bit_of-zero, ones_by_bits, word_ones_le}
use Rattle.bit_rows.proofs.Sums.{same_remainder_add, total_same_remainder, total-add, total-twice, total_none, total_first, total-split}
use Rattle.bit_rows.proofs.Places.{zeros_everywhere}

-- ---- a test that holds at each truth value
abbrev at_both : (Bool → Bool) → Bool
at_both test = test true && test false

at_each : (test : Bool → Bool) → at_both test ≡ true → (b : Bool) → test b ≡ true
at_each test e true = (and_parts (test true) (test false) e).0
at_each test e false = (and_parts (test true) (test false) e).1

-- ---- the running exclusive or
odd_value : (a b : Bool) → value (exclusive_or a b) % 2 ≡ (value a + value b) % 2
odd_value true true = refl
odd_value true false = refl
odd_value false true = refl
odd_value false false = refl

pub word_ones-zero : word_ones 0 ≡ 0
unfolding word_ones
word_ones-zero = total_none (λ j. value (bit_of 0 j)) 64 (λ j h. ap value (bit_of-zero j))

pub word_ones-xor_and : (odd a b : ℕ) → word_ones (bit_xor odd (bit_and a b)) % 2 ≡ (word_ones odd + word_common a b) % 2
unfolding word_ones word_common
word_ones-xor_and odd a b =
    total_same_remainder 2 (λ j. value (bit_of (bit_xor odd (bit_and a b)) j)) (λ j. value (bit_of odd j) + value (bit_of a j && bit_of b j)) 64
    (λ j h. simp (bit_of-xor, bit_of-and) (odd_value (bit_of odd j) (bit_of a j && bit_of b j)))
    ∙ ap (λ s. s % 2) (total-add (λ j. value (bit_of odd j)) (λ j. value (bit_of a j && bit_of b j)) 64)

pub common_ones-zero : (first second : List ℕ) → common_ones first second 0 ≡ 0
unfolding common_ones total
common_ones-zero first second = refl

pub common_ones-suc : (first second : List ℕ) (n : ℕ) → common_ones first second (n + 1) ≡ common_ones first second n + word_common (get_or first n 0) (get_or second n 0)
unfolding common_ones total
common_ones-suc first second n = rw add-one refl

-- ---- the carry words
abbrev clashing : (xa za xb zb : Bool) → Bool
clashing xa za xb zb = exclusive_or (xa && zb) (za && xb)

abbrev turning : (ones xa za xb zb : Bool) → Bool
turning ones xa za xb zb = exclusive_or (exclusive_or (exclusive_or xa xb) (exclusive_or za zb)) (exclusive_or ones (xa && zb))

-- at one place the carry bits afterwards hold the power that they held and that of the two letters, modulo 4
abbrev carries_power : (ones twos xa za xb zb : Bool) → Bool
carries_power ones twos xa za xb zb =
    eqb ((value (exclusive_or ones (clashing xa za xb zb)) + 2 * value (exclusive_or twos (turning ones xa za xb zb && clashing xa za xb zb))) % 4)
    ((value ones + 2 * value twos + letter_phase xa za xb zb) % 4)

-- at all truth values, by computation
all_carry : at_both (λ ones. at_both (λ twos. at_both (λ xa. at_both (λ za. at_both (λ xb. at_both (λ zb. carries_power ones twos xa za xb zb)))))) ≡ true
all_carry = refl

bit_carry : (ones twos xa za xb zb : Bool)
    → (value (exclusive_or ones (clashing xa za xb zb)) + 2 * value (exclusive_or twos (turning ones xa za xb zb && clashing xa za xb zb))) % 4
    ≡ (value ones + 2 * value twos + letter_phase xa za xb zb) % 4
bit_carry ones twos xa za xb zb =
    eqb-true _ _
    (at_each (λ zb. carries_power ones twos xa za xb zb)
    (at_each (λ xb. at_both (λ zb. carries_power ones twos xa za xb zb))
    (at_each (λ za. at_both (λ xb. at_both (λ zb. carries_power ones twos xa za xb zb)))
    (at_each (λ xa. at_both (λ za. at_both (λ xb. at_both (λ zb. carries_power ones twos xa za xb zb))))
    (at_each (λ twos. at_both (λ xa. at_both (λ za. at_both (λ xb. at_both (λ zb. carries_power ones twos xa za xb zb)))))
    (at_each (λ ones. at_both (λ twos. at_both (λ xa. at_both (λ za. at_both (λ xb. at_both (λ zb. carries_power ones twos xa za xb zb))))))
    all_carry ones) twos) xa) za) xb) zb)

carried_by_bits : (ones twos : ℕ) → carried ones twos ≡ total (λ j. value (bit_of ones j) + 2 * value (bit_of twos j)) 64
unfolding carried word_ones
carried_by_bits ones twos =
    sym (total-add (λ j. value (bit_of ones j)) (λ j. 2 * value (bit_of twos j)) 64
    ∙ ap (λ s. total (λ j. value (bit_of ones j)) 64 + s) (total-twice (λ j. value (bit_of twos j)) 64))

pub carried-step : (ones twos xa za xb zb : ℕ)
    → carried (bit_xor ones (bit_xor (bit_and xa zb) (bit_and za xb)))
    (bit_xor twos (bit_and (bit_xor (bit_xor (bit_xor xa xb) (bit_xor za zb)) (bit_xor ones (bit_and xa zb))) (bit_xor (bit_and xa zb) (bit_and za xb)))) % 4
    ≡ (carried ones twos + word_phase xa za xb zb) % 4
unfolding word_phase
carried-step ones twos xa za xb zb =
    ap (λ s. s % 4) (carried_by_bits _ _)
    ∙ total_same_remainder 4 _ (λ j. value (bit_of ones j) + 2 * value (bit_of twos j) + letter_phase (bit_of xa j) (bit_of za j) (bit_of xb j) (bit_of zb j)) 64
    (λ j h. simp (bit_of-xor, bit_of-and) (bit_carry (bit_of ones j) (bit_of twos j) (bit_of xa j) (bit_of za j) (bit_of xb j) (bit_of zb j)))
    ∙ ap (λ s. s % 4) (total-add (λ j. value (bit_of ones j) + 2 * value (bit_of twos j)) (λ j. letter_phase (bit_of xa j) (bit_of za j) (bit_of xb j) (bit_of zb j)) 64
    ∙ ap (λ s. s + total (λ j. letter_phase (bit_of xa j) (bit_of za j) (bit_of xb j) (bit_of zb j)) 64) (sym (carried_by_bits ones twos)))

-- at one place two pairs of carry bits hold, modulo 4, what their join holds
abbrev joins_powers : (ones twos more_ones more_twos : Bool) → Bool
joins_powers ones twos more_ones more_twos =
    eqb ((value (exclusive_or ones more_ones) + 2 * value (exclusive_or (exclusive_or twos more_twos) (ones && more_ones))) % 4)
    ((value ones + 2 * value twos + (value more_ones + 2 * value more_twos)) % 4)

all_joined : at_both (λ ones. at_both (λ twos. at_both (λ more_ones. at_both (λ more_twos. joins_powers ones twos more_ones more_twos)))) ≡ true
all_joined = refl

bit_joined : (ones twos more_ones more_twos : Bool)
    → (value (exclusive_or ones more_ones) + 2 * value (exclusive_or (exclusive_or twos more_twos) (ones && more_ones))) % 4
    ≡ (value ones + 2 * value twos + (value more_ones + 2 * value more_twos)) % 4
bit_joined ones twos more_ones more_twos =
    eqb-true _ _
    (at_each (λ more_twos. joins_powers ones twos more_ones more_twos)
    (at_each (λ more_ones. at_both (λ more_twos. joins_powers ones twos more_ones more_twos))
    (at_each (λ twos. at_both (λ more_ones. at_both (λ more_twos. joins_powers ones twos more_ones more_twos)))
    (at_each (λ ones. at_both (λ twos. at_both (λ more_ones. at_both (λ more_twos. joins_powers ones twos more_ones more_twos))))
    all_joined ones) twos) more_ones) more_twos)

pub carried-join : (ones twos more_ones more_twos : ℕ)
    → carried (bit_xor ones more_ones) (bit_xor (bit_xor twos more_twos) (bit_and ones more_ones)) % 4 ≡ (carried ones twos + carried more_ones more_twos) % 4
carried-join ones twos more_ones more_twos =
    let own : ℕ → ℕ = λ j. value (bit_of ones j) + 2 * value (bit_of twos j) in
    let more : ℕ → ℕ = λ j. value (bit_of more_ones j) + 2 * value (bit_of more_twos j) in
    ap (λ s. s % 4) (carried_by_bits _ _)
    ∙ total_same_remainder 4 _ (λ j. own j + more j) 64
    (λ j h. simp (bit_of-xor, bit_of-and) (bit_joined (bit_of ones j) (bit_of twos j) (bit_of more_ones j) (bit_of more_twos j)))
    ∙ ap (λ s. s % 4) (total-add own more 64 ∙ ap₂ (λ s t. s + t) (sym (carried_by_bits ones twos)) (sym (carried_by_bits more_ones more_twos)))

pub carried-zero : carried 0 0 ≡ 0
unfolding carried
carried-zero = omega (arith, word_ones-zero)

pub words_phase-zero : (xa za xb zb : List ℕ) → words_phase xa za xb zb 0 ≡ 0
unfolding words_phase total
words_phase-zero xa za xb zb = refl

pub words_phase-suc : (xa za xb zb : List ℕ) (n : ℕ)
    → words_phase xa za xb zb (n + 1) ≡ words_phase xa za xb zb n + word_phase (get_or xa n 0) (get_or za n 0) (get_or xb n 0) (get_or zb n 0)
unfolding words_phase total
words_phase-suc xa za xb zb n = rw add-one refl

-- ---- one more step of a loop over words
pub odd_more : (first second : List ℕ) (odd n : ℕ) → word_ones odd % 2 ≡ common_ones first second n % 2
    → word_ones (bit_xor odd (bit_and (get_or first n 0) (get_or second n 0))) % 2 ≡ common_ones first second (n + 1) % 2
odd_more first second odd n e =
    word_ones-xor_and odd (get_or first n 0) (get_or second n 0)
    ∙ same_remainder_add 2 (word_ones odd) (common_ones first second n) (word_common (get_or first n 0) (get_or second n 0)) (word_common (get_or first n 0) (get_or second n 0)) e refl
    ∙ ap (λ s. s % 2) (sym (common_ones-suc first second n))

pub power_more : (xa za xb zb : List ℕ) (held held' n : ℕ) → held % 4 ≡ words_phase xa za xb zb n % 4
    → held' % 4 ≡ (held + word_phase (get_or xa n 0) (get_or za n 0) (get_or xb n 0) (get_or zb n 0)) % 4
    → held' % 4 ≡ words_phase xa za xb zb (n + 1) % 4
power_more xa za xb zb held held' n e step =
    let here = word_phase (get_or xa n 0) (get_or za n 0) (get_or xb n 0) (get_or zb n 0) in
    step ∙ same_remainder_add 4 held (words_phase xa za xb zb n) here here e refl ∙ ap (λ s. s % 4) (sym (words_phase-suc xa za xb zb n))

-- a power carried beside the carry words
pub carried_after : (before held held' word : ℕ) → held' % 4 ≡ (held + word) % 4 → (before + held') % 4 ≡ (before + held + word) % 4
carried_after before held held' word e = same_remainder_add 4 before before held' (held + word) refl e ∙ ap (λ s. s % 4) (omega arith)

-- what the carry words hold, by their counts of ones
pub carried_is : (ones twos : ℕ) → ones < 2 ^ 64 → twos < 2 ^ 64 → count_ones ones + 2 * count_ones twos ≡ carried ones twos
unfolding carried
carried_is ones twos p q = omega (arith, ones_by_bits ones p, ones_by_bits twos q)

pub count_ones_le : (word : ℕ) → word < 2 ^ 64 → count_ones word ≤ 64
count_ones_le word fits = omega (arith, ones_by_bits word fits, word_ones_le word)

-- ---- eight words more
pub word_ones-xor : (a b : ℕ) → word_ones (bit_xor a b) % 2 ≡ (word_ones a + word_ones b) % 2
unfolding word_ones
word_ones-xor a b =
    total_same_remainder 2 (λ j. value (bit_of (bit_xor a b) j)) (λ j. value (bit_of a j) + value (bit_of b j)) 64
    (λ j h. simp bit_of-xor (odd_value (bit_of a j) (bit_of b j)))
    ∙ ap (λ s. s % 2) (total-add (λ j. value (bit_of a j)) (λ j. value (bit_of b j)) 64)

pub ones_of-zeros : (m n : ℕ) → ones_of (replicate m 0) n ≡ 0
unfolding ones_of
ones_of-zeros m n = total_none (λ k. word_ones (get_or (replicate m 0) k 0)) n (λ k h. ap word_ones (zeros_everywhere m k) ∙ word_ones-zero)

ones_of-cons : (x : ℕ) (xs : List ℕ) (n : ℕ) → ones_of (x ∷ xs) (suc n) ≡ word_ones x + ones_of xs n
unfolding ones_of
ones_of-cons x xs n = total_first (λ k. word_ones (get_or (x ∷ xs) k 0)) n

-- the exclusive or of all lanes
pub fold-xor : (f : ℕ → ℕ → ℕ) → ((a b : ℕ) → f a b ≡ bit_xor a b) → (a : ℕ) (xs : List ℕ)
    → word_ones (fold_l f a xs) % 2 ≡ (word_ones a + ones_of xs (length xs)) % 2
unfolding ones_of total
fold-xor f same a [] = ap (λ s. s % 2) (omega arith)
fold-xor f same a (x ∷ xs) =
    fold-xor f same (f a x) xs
    ∙ same_remainder_add 2 (word_ones (f a x)) (word_ones a + word_ones x) (ones_of xs (length xs)) (ones_of xs (length xs)) (ap (λ v. word_ones v % 2) (same a x) ∙ word_ones-xor a x) refl
    ∙ ap (λ s. s % 2) (let e = ones_of-cons x xs (length xs) in omega (arith, e))

common_ones-block : (first second : List ℕ) (at : ℕ)
    → common_ones first second (at + 8) ≡ common_ones first second at + total (λ k. word_common (get_or first (at + k) 0) (get_or second (at + k) 0)) 8
unfolding common_ones
common_ones-block first second at = total-split (λ k. word_common (get_or first k 0) (get_or second k 0)) at 8

-- the kernel of the parity
pub fold_more : (first second odd : List ℕ) (at : ℕ) → at + 8 ≤ length first → at + 8 ≤ length second → length odd ≡ 8
    → ones_of odd 8 % 2 ≡ common_ones first second at % 2
    → ones_of (zip2 bit_xor odd (zip2 bit_and (chunk at 8 first) (chunk at 8 second))) 8 % 2 ≡ common_ones first second (at + 8) % 2
unfolding ones_of
fold_more first second odd at p q long e =
    let a : length (chunk at 8 first) ≡ 8 = length-chunk at 8 first p in
    let b : length (chunk at 8 second) ≡ 8 = length-chunk at 8 second q in
    let both : List ℕ = zip2 bit_and (chunk at 8 first) (chunk at 8 second) in
    let c : length both ≡ 8 = length-zip2 bit_and (chunk at 8 first) (chunk at 8 second) (a ∙ sym b) ∙ a in
    let common : ℕ → ℕ = λ k. word_common (get_or first (at + k) 0) (get_or second (at + k) 0) in
    let lane : (k : ℕ) → k < 8 → get_or (zip2 bit_xor odd both) k 0 ≡ bit_xor (get_or odd k 0) (bit_and (get_or first (at + k) 0) (get_or second (at + k) 0)) =
    λ k h.
    get_or-zip2 bit_xor odd both k 0 0 0 (omega arith) (omega arith)
    ∙ ap (λ v. bit_xor (get_or odd k 0) v)
    (get_or-zip2 bit_and (chunk at 8 first) (chunk at 8 second) k 0 0 0 (omega arith) (omega arith)
    ∙ ap (λ v. bit_and v (get_or (chunk at 8 second) k 0)) (get_or-chunk at 8 first k 0 h)
    ∙ ap (λ v. bit_and (get_or first (at + k) 0) v) (get_or-chunk at 8 second k 0 h)) in
    total_same_remainder 2 (λ k. word_ones (get_or (zip2 bit_xor odd both) k 0)) (λ k. word_ones (get_or odd k 0) + common k) 8
    (λ k h. ap (λ v. word_ones v % 2) (lane k h) ∙ word_ones-xor_and (get_or odd k 0) (get_or first (at + k) 0) (get_or second (at + k) 0))
    ∙ ap (λ s. s % 2) (total-add (λ k. word_ones (get_or odd k 0)) common 8)
    ∙ same_remainder_add 2 (total (λ k. word_ones (get_or odd k 0)) 8) (common_ones first second at) (total common 8) (total common 8) e refl
    ∙ ap (λ s. s % 2) (sym (common_ones-block first second at))
