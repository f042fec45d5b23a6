-- Steps of a generator are one step with other constants, which are shown by where two states go.
use Rattle.std.proofs.Common.{◌≡◌, ℕ, zero, suc, ◌+◌, ◌-◌, ◌*◌, ◌%◌, ◌^◌, ◌<◌, sym, ap₂, ◌∙◌, arith}
use Rattle.std.proofs.lemmas.Nat.{mul-mod_second}
use Rattle.rand_pcg.specs.Lcg.{increment_of, next_state, state_after}
use Rattle.rand_pcg.specs.Pcg.{multiplier_128}
use Rattle.rand_pcg.proofs.LcgLemmas.{next_state-next_state}
use Rattle.forward_sim.specs.private.Jumps.{IsJump}

-- n steps with the multiplier m and the increment p are one
record IsOneStep (m p n : ℕ) : Type 0 where
  pub times : ℕ
  pub plus : ℕ
  pub same : (s : ℕ) → s < 2 ^ 128 → state_after 128 m p n s ≡ next_state 128 times plus s

one_step : (m p n : ℕ) → IsOneStep m p n
unfolding state_after
one_step m p zero = record { times = 1; plus = 0; same = λ s h. omega arith }
one_step m p (suc n) =
    let rest = one_step m p n in
    record {
      times = m * rest.times % 2 ^ 128;
      plus = (p * rest.times % 2 ^ 128 + rest.plus) % 2 ^ 128;
      same = λ s h. rest.same (next_state 128 m p s) (omega arith) ∙ next_state-next_state 128 rest.times rest.plus m p s;
    }

-- where the state 1 went, less where 0 went
slope : (a c : ℕ) → ((1 * a % 2 ^ 128 + c) % 2 ^ 128 + (2 ^ 128 - (0 * a % 2 ^ 128 + c) % 2 ^ 128)) % 2 ^ 128 ≡ a % 2 ^ 128
slope a c = omega arith

reduced : (a c s : ℕ) → next_state 128 (a % 2 ^ 128) ((0 * a % 2 ^ 128 + c) % 2 ^ 128) s ≡ next_state 128 a c s
reduced a c s =
    let product : s * (a % 2 ^ 128) % 2 ^ 128 ≡ s * a % 2 ^ 128 = mul-mod_second s a (2 ^ 128) in
    omega (arith, product)

pub jump_shown : (stream words none one : ℕ)
    → none ≡ state_after 128 multiplier_128 (increment_of 128 stream) words 0
    → one ≡ state_after 128 multiplier_128 (increment_of 128 stream) words 1
    → IsJump stream words ((one + (2 ^ 128 - none)) % 2 ^ 128) none
jump_shown stream words none one at_none at_one s h =
    let found = one_step multiplier_128 (increment_of 128 stream) words in
    let a = found.times in
    let c = found.plus in
    let plus : none ≡ next_state 128 a c 0 = at_none ∙ found.same 0 (omega arith) in
    let other : one ≡ next_state 128 a c 1 = at_one ∙ found.same 1 (omega arith) in
    let times : (one + (2 ^ 128 - none)) % 2 ^ 128 ≡ a % 2 ^ 128 = ap₂ (λ x y. (x + (2 ^ 128 - y)) % 2 ^ 128) other plus ∙ slope a c in
    found.same s h ∙ (sym (reduced a c s) ∙ sym (ap₂ (λ t p. next_state 128 t p s) times plus))
