-- The kernel of the powers of i, lane by lane.
use Rattle.std.proofs.Common.{◌≡◌, ℕ, ◌+◌, ◌%◌, ◌<◌, ◌≤◌, List, length, get_or, replicate, refl, sym, ap, ◌∙◌, arith, bit_and, bit_xor, add-one}
use Rattle.std.specs.Simd.Lanes.{zip2, chunk}
use Rattle.std.proofs.lemmas.Simd.{length-chunk, get_or-chunk, length-zip2, get_or-zip2}
use Rattle.bit_rows.specs.private.Totals.{total}
use Rattle.bit_rows.specs.private.WordTotals.{word_phase, words_phase, carried, carried_by}
use Rattle.bit_rows.proofs.Carries.{carried-step, carried-zero}
use Rattle.bit_rows.proofs.Places.{zeros_everywhere}
use Rattle.bit_rows.proofs.Sums.{same_remainder_add, total_same_remainder, total-add, total_none, total-split}

-- lane k of four lanes
record IsLane (lanes : List ℕ) (k word : ℕ) : Type 0 where
  long : length lanes ≡ 4
  word_is : get_or lanes k 0 ≡ word

own_lane : (lanes : List ℕ) (k : ℕ) → length lanes ≡ 4 → IsLane lanes k (get_or lanes k 0)
own_lane lanes k long = record { long = long; word_is = refl }

loaded_lane : (words : List ℕ) (at k : ℕ) → k < 4 → at + 4 ≤ length words → IsLane (chunk at 4 words) k (get_or words (at + k) 0)
loaded_lane words at k h within = record { long = length-chunk at 4 words within; word_is = get_or-chunk at 4 words k 0 h }

lane_of : (f : ℕ → ℕ → ℕ) (xs ys : List ℕ) (k x y : ℕ) → k < 4 → IsLane xs k x → IsLane ys k y → IsLane (zip2 f xs ys) k (f x y)
lane_of f xs ys k x y h a b =
    record {
      long = length-zip2 f xs ys (a.long ∙ sym b.long) ∙ a.long;
      word_is = get_or-zip2 f xs ys k 0 0 0 (omega (arith, a.long)) (omega (arith, b.long)) ∙ ap (λ v. f v (get_or ys k 0)) a.word_is ∙ ap (f x) b.word_is;
    }

same_carried : (ones ones' twos twos' : ℕ) → ones ≡ ones' → twos ≡ twos' → carried ones twos % 4 ≡ carried ones' twos' % 4
same_carried ones ones' twos twos' e f = ap (λ v. carried v twos % 4) e ∙ ap (λ v. carried ones' v % 4) f

-- each lane carries the powers of its own word
pub carried_lane : (ones twos xa za xb zb : List ℕ) (at : ℕ) → length ones ≡ 4 → length twos ≡ 4
    → at + 4 ≤ length xa → at + 4 ≤ length za → at + 4 ≤ length xb → at + 4 ≤ length zb → (k : ℕ) → k < 4
    → (let xs = chunk at 4 xa in let zs = chunk at 4 za in let xt = chunk at 4 xb in let zt = chunk at 4 zb in
    let clash = zip2 bit_xor (zip2 bit_and xs zt) (zip2 bit_and zs xt) in
    let sign = zip2 bit_xor (zip2 bit_xor (zip2 bit_xor xs xt) (zip2 bit_xor zs zt)) (zip2 bit_xor ones (zip2 bit_and xs zt)) in
    carried (get_or (zip2 bit_xor ones clash) k 0) (get_or (zip2 bit_xor twos (zip2 bit_and sign clash)) k 0) % 4
    ≡ (carried (get_or ones k 0) (get_or twos k 0) + word_phase (get_or xa (at + k) 0) (get_or za (at + k) 0) (get_or xb (at + k) 0) (get_or zb (at + k) 0)) % 4)
carried_lane ones twos xa za xb zb at p q a b c d k h =
    let one = own_lane ones k p in
    let two = own_lane twos k q in
    let x = loaded_lane xa at k h a in
    let z = loaded_lane za at k h b in
    let x' = loaded_lane xb at k h c in
    let z' = loaded_lane zb at k h d in
    let turned = lane_of bit_and _ _ k _ _ h x z' in
    let clash = lane_of bit_xor _ _ k _ _ h turned (lane_of bit_and _ _ k _ _ h z x') in
    let sum = lane_of bit_xor _ _ k _ _ h (lane_of bit_xor _ _ k _ _ h x x') (lane_of bit_xor _ _ k _ _ h z z') in
    let sign = lane_of bit_xor _ _ k _ _ h sum (lane_of bit_xor _ _ k _ _ h one turned) in
    let first = lane_of bit_xor _ _ k _ _ h one clash in
    let second = lane_of bit_xor _ _ k _ _ h two (lane_of bit_and _ _ k _ _ h sign clash) in
    same_carried _ _ _ _ first.word_is second.word_is
    ∙ carried-step (get_or ones k 0) (get_or twos k 0) (get_or xa (at + k) 0) (get_or za (at + k) 0) (get_or xb (at + k) 0) (get_or zb (at + k) 0)

-- ---- the lanes together
pub carried_by-zeros : (m n : ℕ) → carried_by (replicate m 0) (replicate m 0) n ≡ 0
unfolding carried_by
carried_by-zeros m n =
    total_none (λ k. carried (get_or (replicate m 0) k 0) (get_or (replicate m 0) k 0)) n
    (λ k h. ap (λ v. carried v v) (zeros_everywhere m k) ∙ carried-zero)

pub carried_by-zero : (ones twos : List ℕ) → carried_by ones twos 0 ≡ 0
unfolding carried_by total
carried_by-zero ones twos = refl

pub carried_by-suc : (ones twos : List ℕ) (n : ℕ) → carried_by ones twos (n + 1) ≡ carried_by ones twos n + carried (get_or ones n 0) (get_or twos n 0)
unfolding carried_by total
carried_by-suc ones twos n = rw add-one refl

pub lanes_more : (ones twos : List ℕ) (held held' n : ℕ) → held % 4 ≡ carried_by ones twos n % 4
    → held' % 4 ≡ (held + carried (get_or ones n 0) (get_or twos n 0)) % 4 → held' % 4 ≡ carried_by ones twos (n + 1) % 4
lanes_more ones twos held held' n e step =
    let here = carried (get_or ones n 0) (get_or twos n 0) in
    step ∙ same_remainder_add 4 held (carried_by ones twos n) here here e refl ∙ ap (λ s. s % 4) (sym (carried_by-suc ones twos n))

words_phase-block : (xa za xb zb : List ℕ) (at : ℕ)
    → words_phase xa za xb zb (at + 4)
    ≡ words_phase xa za xb zb at + total (λ k. word_phase (get_or xa (at + k) 0) (get_or za (at + k) 0) (get_or xb (at + k) 0) (get_or zb (at + k) 0)) 4
unfolding words_phase
words_phase-block xa za xb zb at = total-split (λ k. word_phase (get_or xa k 0) (get_or za k 0) (get_or xb k 0) (get_or zb k 0)) at 4

-- four words more
pub block_more : (xa za xb zb ones twos ones' twos' : List ℕ) (at : ℕ) → carried_by ones twos 4 % 4 ≡ words_phase xa za xb zb at % 4
    → ((k : ℕ) → k < 4 → carried (get_or ones' k 0) (get_or twos' k 0) % 4
    ≡ (carried (get_or ones k 0) (get_or twos k 0) + word_phase (get_or xa (at + k) 0) (get_or za (at + k) 0) (get_or xb (at + k) 0) (get_or zb (at + k) 0)) % 4)
    → carried_by ones' twos' 4 % 4 ≡ words_phase xa za xb zb (at + 4) % 4
unfolding carried_by
block_more xa za xb zb ones twos ones' twos' at e each =
    let old : ℕ → ℕ = λ k. carried (get_or ones k 0) (get_or twos k 0) in
    let more : ℕ → ℕ = λ k. word_phase (get_or xa (at + k) 0) (get_or za (at + k) 0) (get_or xb (at + k) 0) (get_or zb (at + k) 0) in
    total_same_remainder 4 (λ k. carried (get_or ones' k 0) (get_or twos' k 0)) (λ k. old k + more k) 4 each
    ∙ ap (λ s. s % 4) (total-add old more 4)
    ∙ same_remainder_add 4 (total old 4) (words_phase xa za xb zb at) (total more 4) (total more 4) e refl
    ∙ ap (λ s. s % 4) (sym (words_phase-block xa za xb zb at))
