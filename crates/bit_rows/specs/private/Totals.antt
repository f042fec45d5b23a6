-- Sums over the numbers below a bound.
-- (This project's own.)
use Rattle.std.specs.Prelude.{ℕ, zero, suc, ◌+◌}

-- f 0 + f 1 + .. , over the numbers below n
unfoldable pub total : (ℕ → ℕ) → ℕ → ℕ
total f zero = 0
total f (suc n) = total f n + f n
