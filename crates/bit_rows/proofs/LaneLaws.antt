-- One lane of a word.
use Rattle.std.proofs.Common.{◌≡◌, ℕ, ◌*◌, ◌%◌, ◌^◌, ◌-◌, ◌<◌, true, false, not, cond, eqb, refl, sym, ap, ◌∙◌, bit_xor}
use Rattle.std.proofs.lemmas.Bool.{eq-eqb, ne_eqb}
use Rattle.std.proofs.lemmas.Nat.Bits.{bit_at_ones}
use Rattle.bit_rows.specs.private.Words.{bit_of}
use Rattle.bit_rows.proofs.BitLaws.{at_place, bit_of-zero, bit_of_flip}
use Rattle.bit_rows.specs.Lanes.{lane_bit}

-- the same test as that of a row's bit
pub lane_is_bit : (j word : ℕ) → lane_bit j word ≡ bit_of word j
unfolding lane_bit bit_of
lane_is_bit j word = refl

pub lane_bit-zero : (j : ℕ) → lane_bit j 0 ≡ false
lane_bit-zero j = lane_is_bit j 0 ∙ bit_of-zero j

pub lane_bit-ones : (j : ℕ) → j < 64 → lane_bit j (2 ^ 64 - 1) ≡ true
unfolding lane_bit
lane_bit-ones j below = ap (λ v. eqb v 1) (bit_at_ones 64 j below)

-- a lane that is 1, turned
pub taken_out : (word k j : ℕ) → k < 64 → lane_bit k word ≡ true → lane_bit j (bit_xor word (1 * 2 ^ k % 2 ^ 64)) ≡ cond (eqb j k) false (lane_bit j word)
taken_out word k j within set =
    lane_is_bit j _ ∙ bit_of_flip word k j within
    ∙ at_place j k _ false (lane_bit j word)
    (λ e. ap (λ t. cond t (not (bit_of word j)) (bit_of word j)) (eq-eqb j k e) ∙ ap not (ap (bit_of word) e ∙ sym (lane_is_bit k word) ∙ set))
    (λ ne. ap (λ t. cond t (not (bit_of word j)) (bit_of word j)) (ne_eqb j k ne) ∙ sym (lane_is_bit j word))
