-- Drawn shots as they are kept, up to 64 in the lanes of words: one word for each fault and one for each collapse (the
-- projective measurement inside a measurement or a reset). They are drawn shot after shot, each from where the generator
-- is left by the one before it; lane 0 has the first. The words of the coins in a span
-- are passed over, and these are 0. In the lanes without a shot no fault happens and all coins are 0. (The order is this repository's own.)
use Rattle.std.specs.Prelude.{◌≡◌, ℕ, ◌<◌, ◌≤◌, ◌%◌, ◌==◌, nat_le, nat_lt, Bool, false, ◌&&◌, ◌||◌, List, length, map, replicate}
use Rattle.std.specs.List.{range_with_len}
use Rattle.rand_pcg.specs.Lcg.{Lcg}
use Rattle.bit_rows.specs.Lanes.{lane}
use Rattle.forward_sim.specs.declared.span.Span.{Span}
use Rattle.forward_sim.specs.Drawn.{after_words, word_at, drawn_faults, after_shots}

-- the shots: the bounds of the faults, the coins that are passed over, and the words
pub record ShotWords : Type 0 where
  pub bounds : List ℕ
  pub passed : Span
  pub faults : List ℕ
  pub coins : List ℕ

-- whether the coin of a collapse is tossed, where those of a span aren't
abbrev pub is_tossed : Span → ℕ → Bool
is_tossed passed c = nat_lt c passed.start || nat_le passed.end c

-- the coins of this many collapses, by the next words: those that aren't tossed are 0
abbrev pub tossed_coins : Span → ℕ → Lcg → List Bool
tossed_coins passed collapses generator = map (λ c. is_tossed passed c && word_at generator c % 2 == 1) (range_with_len 0 collapses)

-- these words have this many shots in their first lanes, drawn by the next words of this generator
pub record AreDrawn (passed : Span) (bounds : List ℕ) (collapses shots : ℕ) (generator : Lcg) (fault_words coin_words : List ℕ) : Type 0 where
  pub fault_count : length fault_words ≡ length bounds
  pub coin_count : length coin_words ≡ collapses
  pub faults : (j : ℕ) → j < shots → lane j fault_words ≡ drawn_faults bounds (after_shots (length bounds) collapses j generator)
  pub coins : (j : ℕ) → j < shots
      → lane j coin_words ≡ tossed_coins passed collapses (after_words (length bounds) (after_shots (length bounds) collapses j generator))
  pub idle_faults : (j : ℕ) → shots ≤ j → j < 64 → lane j fault_words ≡ replicate (length bounds) false
  pub idle_coins : (j : ℕ) → shots ≤ j → j < 64 → lane j coin_words ≡ replicate collapses false
