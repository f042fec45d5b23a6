-- Jumps over words of a generator. (This project's own.)
use Rattle.std.specs.Prelude.{◌≡◌, ℕ, ◌<◌, ◌^◌}
use Rattle.rand_pcg.specs.Lcg.{increment_of, next_state, state_after}
use Rattle.rand_pcg.specs.Pcg.{multiplier_128}

-- one step with these constants takes each state of a stream's generators where so many words do
abbrev pub IsJump : ℕ → ℕ → ℕ → ℕ → Type 0
IsJump stream words times plus = (state : ℕ) → state < 2 ^ 128
    → state_after 128 multiplier_128 (increment_of 128 stream) words state ≡ next_state 128 times plus state
