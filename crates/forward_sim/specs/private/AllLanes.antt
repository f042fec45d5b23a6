-- Words whose lanes are drawn, the first ones by a generator each: a lane of a word is a truth value that the generator's word
-- of that number decides. The other lanes are 0. (This project's own.)
use Rattle.std.specs.Prelude.{◌≡◌, ◌<◌, ◌≤◌, ℕ, ◌%◌, ◌==◌, nat_lt, Bool, false, ◌&&◌, List, length, map, slice_index, slice_index_or}
use Rattle.rand_pcg.specs.Lcg.{Lcg}
use Rattle.bit_rows.specs.Lanes.{lane_bit}
use Rattle.forward_sim.specs.declared.span.Span.{Span}
use Rattle.forward_sim.specs.Drawn.{after_words, word_at}
use Rattle.forward_sim.specs.Shots.{is_tossed}

-- the generator of a lane; `nobody` where there is none
abbrev pub nobody : Lcg
nobody = record { state = 0; increment = 0 }

abbrev pub generator_at : List Lcg → ℕ → Lcg
generator_at generators l = slice_index_or generators l nobody

-- what a word decides: whether a fault happens, and a coin, where those of a span aren't tossed
abbrev pub fault_hits : List ℕ → ℕ → ℕ → Bool
fault_hits bounds f word = nat_lt word (slice_index_or bounds f 0)

abbrev pub coin_hits : Span → ℕ → ℕ → Bool
coin_hits passed c word = is_tossed passed c && word % 2 == 1

-- the first n words are drawn
pub record LanesDrawn (n : ℕ) (hits : ℕ → ℕ → Bool) (generators : List Lcg) (words : List ℕ) : Type 0 where
  pub drawn : (j k : ℕ) → j < length generators → k < n
      → lane_bit j (slice_index words k) ≡ hits k (word_at (generator_at generators j) k)
  pub idle : (j k : ℕ) → length generators ≤ j → k < n → lane_bit j (slice_index words k) ≡ false

-- of `total` words the first n are drawn, by the next words of the generators, which are left there
pub record DrawnUpTo (n total : ℕ) (hits : ℕ → ℕ → Bool) (generators : List Lcg) (words : List ℕ) (left : List Lcg) : Type 0 where
  pub size : length words ≡ total
  pub lanes : LanesDrawn n hits generators words
  pub taken : left ≡ map (after_words n) generators

-- all of n words are
abbrev pub AllDrawn : ℕ → (ℕ → ℕ → Bool) → List Lcg → List ℕ → List Lcg → Type 0
AllDrawn n hits generators words left = DrawnUpTo n n hits generators words left
