-- Sieves: tables of masks that tell of most states of a Pcg64, before the word is made, that their word isn't small. A
-- state gives its word as its two halves, xored and then rotated right by its six highest bits; there is a mask for each
-- such rotation. (This project's own.)
use Rattle.std.specs.Prelude.{◌≡◌, ℕ, ◌/◌, ◌%◌, ◌^◌, ◌<◌, List, bit_and, bit_xor, slice_index}
use Rattle.rand_pcg.specs.Pcg.{output_xsl_rr}

-- the word of a state before it is rotated
abbrev pub unrotated : ℕ → ℕ
unrotated state = bit_xor (state / 2 ^ 64) (state % 2 ^ 64)

-- none of its bits is in the mask
abbrev pub Passes : List ℕ → ℕ → Type 0
Passes masks state = bit_and (unrotated state) (slice_index masks (state / 2 ^ 122)) ≡ 0

-- a small word is one with none of the nine highest bits
abbrev pub LetsSmallPass : List ℕ → Type 0
LetsSmallPass masks = (state : ℕ) → state < 2 ^ 128 → output_xsl_rr state < 2 ^ 55 → Passes masks state
