-- The steps of the loops over blocks of words: spans of words that meet, and one word or block more.
use Rattle.std.proofs.Common.{◌≡◌, ℕ, ◌+◌, ◌<◌, ◌≤◌, List, length, get_or, set, ◌-◌, refl, sym, ap, ◌∙◌, arith, ⊎_elim, bit_xor, get_or-set_same, get_or-set_other}
use Rattle.std.specs.Simd.Lanes.{zip2, chunk, put_chunk}
use Rattle.std.proofs.lemmas.Bool.{cases_lt}
use Rattle.std.proofs.lemmas.Simd.{length-chunk, get_or-chunk, length-zip2, get_or-zip2, get_or-put_chunk_below, get_or-put_chunk_at, get_or-put_chunk_above}
use Rattle.bit_rows.specs.private.Spans.{XorsWithin}

-- ---- spans of words
pub XorsWithin-none : (first second : List ℕ) (low : ℕ) → XorsWithin first second first low low
XorsWithin-none first second low = record { below = λ k h. refl; inside = λ k h l. absurd (omega arith); above = λ k h. refl }

pub XorsWithin-join : (first second middle new : List ℕ) (low at high : ℕ) → low ≤ at → at ≤ high
    → XorsWithin first second middle low at → XorsWithin middle second new at high → XorsWithin first second new low high
XorsWithin-join first second middle new low at high p q before after =
    record {
      below = λ k h. after.below k (omega arith) ∙ before.below k h;
      inside = λ k h l.
          ⊎_elim
          (λ (m : k < at). after.below k m ∙ before.inside k h m)
          (λ (m : at ≤ k). after.inside k m l ∙ ap (λ v. bit_xor v (get_or second k 0)) (before.above k m))
          (cases_lt k at);
      above = λ k h. after.above k h ∙ before.above k (omega arith);
    }

pub XorsWithin-one : (first second : List ℕ) (i : ℕ) → i < length first
    → XorsWithin first second (set first i (bit_xor (get_or first i 0) (get_or second i 0))) i (i + 1)
XorsWithin-one first second i within =
    let word = bit_xor (get_or first i 0) (get_or second i 0) in
    record {
      below = λ k h. get_or-set_other first i k word 0 (λ e. omega arith);
      inside = λ k h l.
          let e : k ≡ i = omega arith in
          ap (λ v. get_or (set first i word) v 0) e ∙ get_or-set_same first i word 0 within ∙ ap (λ v. bit_xor (get_or first v 0) (get_or second v 0)) (sym e);
      above = λ k h. get_or-set_other first i k word 0 (λ e. omega arith);
    }

pub XorsWithin-block : (first second : List ℕ) (at n : ℕ) → at + n ≤ length first → at + n ≤ length second
    → XorsWithin first second (put_chunk at first (zip2 bit_xor (chunk at n first) (chunk at n second))) at (at + n)
XorsWithin-block first second at n own other =
    let a : length (chunk at n first) ≡ n = length-chunk at n first own in
    let b : length (chunk at n second) ≡ n = length-chunk at n second other in
    let block : List ℕ = zip2 bit_xor (chunk at n first) (chunk at n second) in
    let long : length block ≡ n = length-zip2 bit_xor (chunk at n first) (chunk at n second) (a ∙ sym b) ∙ a in
    record {
      below = λ k h. get_or-put_chunk_below at first block k 0 h;
      inside = λ k h l.
          let j : ℕ = k - at in
          let e : at + j ≡ k = omega arith in
          let short : j < n = omega arith in
          ap (λ v. get_or (put_chunk at first block) v 0) (sym e)
          ∙ get_or-put_chunk_at at first block j 0 (omega arith) (omega arith)
          ∙ get_or-zip2 bit_xor (chunk at n first) (chunk at n second) j 0 0 0 (omega arith) (omega arith)
          ∙ ap (λ v. bit_xor v (get_or (chunk at n second) j 0)) (get_or-chunk at n first j 0 short)
          ∙ ap (λ v. bit_xor (get_or first (at + j) 0) v) (get_or-chunk at n second j 0 short)
          ∙ ap (λ v. bit_xor (get_or first v 0) (get_or second v 0)) e;
      above = λ k h. get_or-put_chunk_above at first block k 0 (omega arith);
    }
