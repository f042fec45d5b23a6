-- Tests of letters and of powers of i, which compute, and what they show at each letter.
use Rattle.std.proofs.Common.{◌≡◌, Bool, true, false, ◌&&◌, refl, sym, ap₂, ◌∙◌}
use Rattle.std.proofs.lemmas.Bool.{and_parts}
use Rattle.pauli_word.specs.declared.letter.Letter.{Letter}
use Rattle.pauli_word.specs.declared.letter.Letter.TheVariants.{I, X, Y, Z}
use Rattle.pauli_word.specs.Bits.{letter_of, x_bit, z_bit}
use Rattle.pauli_word.specs.Letters.{Power, one, i, minus_one, minus_i}
use Rattle.pauli_word.proofs.Parities.{same_truth, same_truth-true}

-- a test at each letter, at each two letters, and so on: what passes at each passes at these
abbrev pub each_letter : (Letter → Bool) → Bool
each_letter p = p I && (p X && (p Y && p Z))

pub at_letter : (p : Letter → Bool) → each_letter p ≡ true → (a : Letter) → p a ≡ true
at_letter p h a =
    let past_I : (p X && (p Y && p Z)) ≡ true = (and_parts (p I) (p X && (p Y && p Z)) h).1 in
    let past_X : (p Y && p Z) ≡ true = (and_parts (p X) (p Y && p Z) past_I).1 in
    elim a as (λ b. p b ≡ true) [
      | I ↦ (and_parts (p I) (p X && (p Y && p Z)) h).0
      | X ↦ (and_parts (p X) (p Y && p Z) past_I).0
      | Y ↦ (and_parts (p Y) (p Z) past_X).0
      | Z ↦ (and_parts (p Y) (p Z) past_X).1
    ]

abbrev pub each_two_letters : (Letter → Letter → Bool) → Bool
each_two_letters p = each_letter (λ a. each_letter (p a))

pub at_two_letters : (p : Letter → Letter → Bool) → each_two_letters p ≡ true → (a b : Letter) → p a b ≡ true
at_two_letters p h a b = at_letter (p a) (at_letter (λ c. each_letter (p c)) h a) b

abbrev pub each_three_letters : (Letter → Letter → Letter → Bool) → Bool
each_three_letters p = each_letter (λ a. each_two_letters (p a))

pub at_three_letters : (p : Letter → Letter → Letter → Bool) → each_three_letters p ≡ true → (a b c : Letter) → p a b c ≡ true
at_three_letters p h a b c = at_two_letters (p a) (at_letter (λ d. each_two_letters (p d)) h a) b c

abbrev pub each_four_letters : (Letter → Letter → Letter → Letter → Bool) → Bool
each_four_letters p = each_two_letters (λ a b. each_two_letters (p a b))

pub at_four_letters : (p : Letter → Letter → Letter → Letter → Bool) → each_four_letters p ≡ true → (a b c d : Letter) → p a b c d ≡ true
at_four_letters p h a b c d = at_two_letters (p a b) (at_two_letters (λ e f. each_two_letters (p e f)) h a b) c d

-- a letter is that of its bits
pub letter_of-bits : (a : Letter) → letter_of (x_bit a) (z_bit a) ≡ a
letter_of-bits I = refl
letter_of-bits X = refl
letter_of-bits Y = refl
letter_of-bits Z = refl

-- equality of letters, as a test of their bits
abbrev pub same_letter : Letter → Letter → Bool
same_letter a b = same_truth (x_bit a) (x_bit b) && same_truth (z_bit a) (z_bit b)

pub same_letter-true : (a b : Letter) → same_letter a b ≡ true → a ≡ b
same_letter-true a b h =
    let both = and_parts (same_truth (x_bit a) (x_bit b)) (same_truth (z_bit a) (z_bit b)) h in
    sym (letter_of-bits a) ∙ ap₂ letter_of (same_truth-true _ _ both.0) (same_truth-true _ _ both.1) ∙ letter_of-bits b

-- equality of powers, as a test
abbrev pub same_power : Power → Power → Bool
same_power one one = true
same_power i i = true
same_power minus_one minus_one = true
same_power minus_i minus_i = true
same_power p q = false

pub same_power-true : (p q : Power) → same_power p q ≡ true → p ≡ q
same_power-true one one h = refl
same_power-true i i h = refl
same_power-true minus_one minus_one h = refl
same_power-true minus_i minus_i h = refl
same_power-true p q h = cc
