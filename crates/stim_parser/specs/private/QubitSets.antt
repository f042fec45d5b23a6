-- Sets of qubits, kept as words of 64 bits: qubit q is in the set where bit q % 64 of word q / 64 is set, the lowest bit
-- first. (This project's own.)
use Rattle.std.specs.Prelude.{ℕ, ◌==◌, ◌/◌, ◌%◌, Bool, List, slice_index}
use Rattle.std.specs.Int.{bit_at}

-- whether a bit of a word is set
unfoldable pub is_set : ℕ → ℕ → Bool
is_set word bit = bit_at word bit == 1

-- whether a set of qubits names this one
unfoldable pub is_named : List ℕ → ℕ → Bool
is_named words q = is_set (slice_index words (q / 64)) (q % 64)
