-- The laws of exclusive or.
use Rattle.std.proofs.Common.{◌≡◌, Bool, true, false, not, ◌&&◌, refl}
use Rattle.std.proofs.lemmas.Bool.{and_parts}
use Rattle.pauli_word.specs.Parity.{exclusive_or}

pub exclusive_or-false : (a : Bool) → exclusive_or a false ≡ a
exclusive_or-false false = refl
exclusive_or-false true = refl

pub exclusive_or_self : (a : Bool) → exclusive_or a a ≡ false
exclusive_or_self false = refl
exclusive_or_self true = refl

pub exclusive_or_comm : (a b : Bool) → exclusive_or a b ≡ exclusive_or b a
exclusive_or_comm false false = refl
exclusive_or_comm false true = refl
exclusive_or_comm true false = refl
exclusive_or_comm true true = refl

pub exclusive_or_assoc : (a b c : Bool) → exclusive_or (exclusive_or a b) c ≡ exclusive_or a (exclusive_or b c)
exclusive_or_assoc false b c = refl
exclusive_or_assoc true false c = refl
exclusive_or_assoc true true false = refl
exclusive_or_assoc true true true = refl

-- a and b swapped in a sum of three
pub exclusive_or_left_comm : (a b c : Bool) → exclusive_or a (exclusive_or b c) ≡ exclusive_or b (exclusive_or a c)
exclusive_or_left_comm false b c = refl
exclusive_or_left_comm true false c = refl
exclusive_or_left_comm true true false = refl
exclusive_or_left_comm true true true = refl

-- the inner two of four swapped
pub exclusive_or_middle : (a b c d : Bool) → exclusive_or (exclusive_or a b) (exclusive_or c d) ≡ exclusive_or (exclusive_or a c) (exclusive_or b d)
exclusive_or_middle false false c d = refl
exclusive_or_middle false true false d = refl
exclusive_or_middle false true true false = refl
exclusive_or_middle false true true true = refl
exclusive_or_middle true false false d = refl
exclusive_or_middle true false true false = refl
exclusive_or_middle true false true true = refl
exclusive_or_middle true true false false = refl
exclusive_or_middle true true false true = refl
exclusive_or_middle true true true d = refl

-- equality of truth values, as a test
abbrev pub same_truth : Bool → Bool → Bool
same_truth a b = not (exclusive_or a b)

pub same_truth-true : (a b : Bool) → same_truth a b ≡ true → a ≡ b
same_truth-true false false h = refl
same_truth-true true true h = refl
same_truth-true a b h = cc

-- a test at each truth value, at each two, and so on: what passes at each passes at these
abbrev pub each_truth : (Bool → Bool) → Bool
each_truth p = p false && p true

pub at_truth : (p : Bool → Bool) → each_truth p ≡ true → (a : Bool) → p a ≡ true
at_truth p h false = (and_parts (p false) (p true) h).0
at_truth p h true = (and_parts (p false) (p true) h).1

abbrev pub each_two_truths : (Bool → Bool → Bool) → Bool
each_two_truths p = each_truth (λ a. each_truth (p a))

pub at_two_truths : (p : Bool → Bool → Bool) → each_two_truths p ≡ true → (a b : Bool) → p a b ≡ true
at_two_truths p h a b = at_truth (p a) (at_truth (λ x. each_truth (p x)) h a) b

abbrev pub each_four_truths : (Bool → Bool → Bool → Bool → Bool) → Bool
each_four_truths p = each_two_truths (λ a b. each_two_truths (p a b))

pub at_four_truths : (p : Bool → Bool → Bool → Bool → Bool) → each_four_truths p ≡ true → (a b c d : Bool) → p a b c d ≡ true
at_four_truths p h a b c d = at_two_truths (p a b) (at_two_truths (λ x y. each_two_truths (p x y)) h a b) c d

abbrev pub each_six_truths : (Bool → Bool → Bool → Bool → Bool → Bool → Bool) → Bool
each_six_truths p = each_four_truths (λ a b c d. each_two_truths (p a b c d))

pub at_six_truths : (p : Bool → Bool → Bool → Bool → Bool → Bool → Bool) → each_six_truths p ≡ true → (a b c d e f : Bool) → p a b c d e f ≡ true
at_six_truths p h a b c d e f = at_two_truths (p a b c d) (at_four_truths (λ w x y z. each_two_truths (p w x y z)) h a b c d) e f
