-- A drawn shot. It takes 64-bit words of a generator: first one for each fault, in their order, and then one for each
-- collapse, in their order. A collapse is the projective measurement inside a measurement or a reset, and its coin is
-- the outcome where that is random. A fault happens where its word is below its bound, which is floor of its
-- probability times 2^64; a coin is its word's lowest bit. The generator goes on from shot to shot. (The order is this
-- repository's own; the generator is Pcg64 of Rust's rand_pcg.)
use Rattle.std.specs.Prelude.{ℕ, ◌%◌, ◌==◌, nat_lt, Bool, List, length, map, slice_index_or, ◌+◌, ◌*◌}
use Rattle.std.specs.List.{range_with_len}
use Rattle.rand_pcg.specs.Lcg.{Lcg, advance}
use Rattle.rand_pcg.specs.Pcg.{multiplier_128, pcg64}
use Rattle.step_model.specs.Listing.{Listing}

-- the bounds of a program's faults
abbrev pub bounds_of : Listing → List ℕ
bounds_of program = map (λ fault. fault.bound) program.faults

-- a generator after its next n words
abbrev pub after_words : ℕ → Lcg → Lcg
after_words n generator = advance 128 multiplier_128 n generator

-- the word of this number that a generator gives, the next being 0
abbrev pub word_at : Lcg → ℕ → ℕ
word_at generator k = (pcg64 (after_words k generator)).0

-- whether each fault happens, by the next words
abbrev pub drawn_faults : List ℕ → Lcg → List Bool
drawn_faults bounds generator =
    map (λ f. nat_lt (word_at generator f) (slice_index_or bounds f 0)) (range_with_len 0 (length bounds))

-- the coins of this many collapses, by the next words
abbrev pub drawn_coins : ℕ → Lcg → List Bool
drawn_coins collapses generator = map (λ c. word_at generator c % 2 == 1) (range_with_len 0 collapses)

-- a generator after this many shots of this many faults and collapses
abbrev pub after_shots : ℕ → ℕ → ℕ → Lcg → Lcg
after_shots faults collapses shots generator = after_words (shots * (faults + collapses)) generator
