-- Words of 64 bits whose bits belong to 64 runs that go side by side: bit j belongs to run j, the lowest bit to run 0.
-- A list of words so holds a list of truth values for each run. (Bit-sliced simulation, as in Stim's frame simulator:
-- Gidney, Quantum 5, 497 (2021).)
use Rattle.std.specs.Prelude.{ℕ, ◌==◌, Bool, List, map}
use Rattle.std.specs.Int.{bit_at}

-- whether a word holds a 1 for run j
unfoldable pub lane_bit : ℕ → ℕ → Bool
lane_bit j word = bit_at word j == 1

-- the truth values of run j, one a word
abbrev pub lane : ℕ → List ℕ → List Bool
lane j words = map (lane_bit j) words
