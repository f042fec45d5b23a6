-- The steps of the loops that multiply words of letters: words without letters, which are passed over, and those ahead.
use Rattle.std.proofs.Common.{◌≡◌, ℕ, zero, suc, ◌+◌, ◌<◌, ◌≤◌, ◌%◌, Bool, true, false, List, [], ◌∷◌, length, get_or, refl, ap, ap₂, sym, ◌∙◌, arith, ◌-◌, bit_or, bit_xor}
use Rattle.std.specs.Int.Bits.{xor_zero_r}
use Rattle.std.specs.Simd.Lanes.{zip2, chunk, put_chunk, fold_l}
use Rattle.std.proofs.lemmas.Nat.{le_or_l, le_or_r}
use Rattle.std.proofs.lemmas.Simd.{length-chunk, length-zip2, get_or-zip2, get_or-put_chunk_at}
use Rattle.bit_rows.specs.Rows.{letter_phase}
use Rattle.bit_rows.specs.private.Spans.{XorsWithin}
use Rattle.bit_rows.specs.private.Words.{bit_of}
use Rattle.bit_rows.specs.private.WordTotals.{word_phase, carried}
use Rattle.bit_rows.proofs.BitLaws.{bit_of-zero}
use Rattle.bit_rows.proofs.Sums.{total_none}

blank_phase : (a b : Bool) → letter_phase a b false false ≡ 0
blank_phase false false = refl
blank_phase false true = refl
blank_phase true false = refl
blank_phase true true = refl

pub word_phase-blank : (xa za : ℕ) → word_phase xa za 0 0 ≡ 0
unfolding word_phase
word_phase-blank xa za =
    total_none (λ j. letter_phase (bit_of xa j) (bit_of za j) (bit_of 0 j) (bit_of 0 j)) 64
    (λ j h. ap₂ (letter_phase (bit_of xa j) (bit_of za j)) (bit_of-zero j) (bit_of-zero j) ∙ blank_phase (bit_of xa j) (bit_of za j))

pub carried-blank : (ones twos xa za xb zb : ℕ) → (xb ≡ 0) × (zb ≡ 0) → carried ones twos % 4 ≡ (carried ones twos + word_phase xa za xb zb) % 4
carried-blank ones twos xa za xb zb blank =
    let none : word_phase xa za xb zb ≡ 0 = ap₂ (word_phase xa za) blank.0 blank.1 ∙ word_phase-blank xa za in
    ap (λ s. s % 4) (omega (arith, none))

either_zero : (a b : ℕ) → bit_or a b ≡ 0 → (a ≡ 0) × (b ≡ 0)
either_zero a b h = (omega (arith, h, le_or_l a b), omega (arith, h, le_or_r a b))

fold-or : (f : ℕ → ℕ → ℕ) → ((a b : ℕ) → f a b ≡ bit_or a b) → (a : ℕ) (xs : List ℕ) → fold_l f a xs ≡ 0 → (a ≡ 0) × ((k : ℕ) → get_or xs k 0 ≡ 0)
fold-or f same a [] h = (h, λ k. refl)
fold-or f same a (x ∷ xs) h =
    let rest = fold-or f same (f a x) xs h in
    let both = either_zero a x (sym (same a x) ∙ rest.0) in
    (both.0, place both.1 rest.1)
  where
    place : x ≡ 0 → ((k : ℕ) → get_or xs k 0 ≡ 0) → (k : ℕ) → get_or (x ∷ xs) k 0 ≡ 0
    place e each zero = e
    place e each (suc k) = each k

-- where the or of all lanes is 0 every lane is
blank_lanes : (f : ℕ → ℕ → ℕ) → ((a b : ℕ) → f a b ≡ bit_or a b) → (xs zs : List ℕ) → length xs ≡ 4 → length zs ≡ 4 → fold_l f 0 (zip2 bit_or xs zs) ≡ 0
    → (k : ℕ) → k < 4 → (get_or xs k 0 ≡ 0) × (get_or zs k 0 ≡ 0)
blank_lanes f same xs zs x_long z_long h k within =
    let lane : get_or (zip2 bit_or xs zs) k 0 ≡ bit_or (get_or xs k 0) (get_or zs k 0) = get_or-zip2 bit_or xs zs k 0 0 0 (omega (arith, x_long, within)) (omega (arith, z_long, within)) in
    either_zero (get_or xs k 0) (get_or zs k 0) (sym lane ∙ (fold-or f same 0 (zip2 bit_or xs zs) h).1 k)

sum_long : (first second : List ℕ) (at : ℕ) → at + 4 ≤ length first → at + 4 ≤ length second → length (zip2 bit_xor (chunk at 4 first) (chunk at 4 second)) ≡ 4
sum_long first second at own other =
    let a : length (chunk at 4 first) ≡ 4 = length-chunk at 4 first own in
    let b : length (chunk at 4 second) ≡ 4 = length-chunk at 4 second other in
    length-zip2 bit_xor (chunk at 4 first) (chunk at 4 second) (a ∙ sym b) ∙ a

-- where the or of two sums is 0, so are the words written
pub no_letters_left : (f : ℕ → ℕ → ℕ) → ((a b : ℕ) → f a b ≡ bit_or a b) → (xa za xb zb : List ℕ) (at : ℕ)
    → at + 4 ≤ length xa → at + 4 ≤ length za → at + 4 ≤ length xb → at + 4 ≤ length zb
    → fold_l f 0 (zip2 bit_or (zip2 bit_xor (chunk at 4 xa) (chunk at 4 xb)) (zip2 bit_xor (chunk at 4 za) (chunk at 4 zb))) ≡ 0
    → (k : ℕ) → k < 4 → (get_or (put_chunk at xa (zip2 bit_xor (chunk at 4 xa) (chunk at 4 xb))) (at + k) 0 ≡ 0) × (get_or (put_chunk at za (zip2 bit_xor (chunk at 4 za) (chunk at 4 zb))) (at + k) 0 ≡ 0)
no_letters_left f same xa za xb zb at p q r s none k h =
    let xs : List ℕ = zip2 bit_xor (chunk at 4 xa) (chunk at 4 xb) in
    let zs : List ℕ = zip2 bit_xor (chunk at 4 za) (chunk at 4 zb) in
    let x_long : length xs ≡ 4 = sum_long xa xb at p r in
    let z_long : length zs ≡ 4 = sum_long za zb at q s in
    let zero = blank_lanes f same xs zs x_long z_long none k h in (
      get_or-put_chunk_at at xa xs k 0 (omega (arith, x_long, h)) (omega (arith, x_long, p)) ∙ zero.0,
      get_or-put_chunk_at at za zs k 0 (omega (arith, z_long, h)) (omega (arith, z_long, q)) ∙ zero.1,
    )

-- words of 0 change nothing
pub XorsWithin-blank : (first second : List ℕ) (low high : ℕ) → ((k : ℕ) → low ≤ k → k < high → get_or second k 0 ≡ 0) → XorsWithin first second first low high
XorsWithin-blank first second low high blank =
    record {
      below = λ k h. refl;
      inside = λ k h l. sym (ap (bit_xor (get_or first k 0)) (blank k h l) ∙ xor_zero_r (get_or first k 0));
      above = λ k h. refl;
    }

pub blank_block : (words : List ℕ) (at : ℕ) → ((k : ℕ) → k < 4 → get_or words (at + k) 0 ≡ 0) → (k : ℕ) → at ≤ k → k < at + 4 → get_or words k 0 ≡ 0
blank_block words at blank k h l =
    let e : at + (k - at) ≡ k = omega (arith, h) in
    ap (λ j. get_or words j 0) (sym e) ∙ blank (k - at) (omega (arith, h, l))
