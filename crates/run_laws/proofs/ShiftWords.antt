-- The letters of a word at a qubit, and how they decide whether it anticommutes with a lone letter there.
use Rattle.std.proofs.Common.{◌≡◌, ℕ, zero, suc, ◌<◌, false, List, [], ◌∷◌, length, slice_set, refl, ap, sym, ◌∙◌}
use Rattle.std.proofs.lemmas.List.{length-replicate}
use Rattle.pauli_word.specs.declared.letter.Letter.{Letter}
use Rattle.pauli_word.specs.declared.letter.Letter.TheVariants.{I}
use Rattle.pauli_word.specs.Letters.{letters_clash}
use Rattle.pauli_word.specs.Parity.{exclusive_or}
use Rattle.pauli_word.specs.Words.{anticommute, no_letters, lone_letter, letter_at}
use Rattle.pauli_word.proofs.Parities.{exclusive_or_left_comm}
use Rattle.pauli_word.proofs.LetterLaws.{letters_clash_comm, letters_clash_of_I}
use Rattle.pauli_word.proofs.WordLaws.{anticommute_comm, anticommute_of_none}
use Rattle.step_model.specs.Listing.{Effect, Applies, Flips, effect_word}
use Rattle.pauli_word.proofs.LoneLetters.{anticommute-lone_letter}
use Rattle.pauli_word.proofs.WordPlaces.{clash-I}
use Rattle.step_model.proofs.StepNumbers.{length-word_of_terms}

-- what a fault applies is a word of the program's qubits
pub length-effect_word : (n : ℕ) (effect : Effect) → length (effect_word n effect) ≡ n
length-effect_word n (Applies terms) = length-word_of_terms n terms
length-effect_word n (Flips r) = length-replicate n I

pub anticommute-none : (p : List Letter) (n : ℕ) → anticommute p (no_letters n) ≡ false
anticommute-none p n = anticommute_comm p (no_letters n) ∙ anticommute_of_none n p

-- a word anticommutes with a lone letter where its letter there clashes
pub anticommute-lone : (p : List Letter) (n q : ℕ) (a : Letter) → length p ≡ n → q < n → anticommute p (lone_letter n q a) ≡ letters_clash (letter_at p q) a
anticommute-lone p n q a size inside =
    anticommute_comm p (lone_letter n q a) ∙ anticommute-lone_letter n p q a size inside ∙ letters_clash_comm a (letter_at p q)

-- the part at a qubit, and that at the other qubits
pub anticommute-parts : (p v : List Letter) (q : ℕ) → anticommute p v ≡ exclusive_or (letters_clash (letter_at p q) (letter_at v q)) (anticommute p (slice_set v q I))
anticommute-parts [] v q = sym (ap (λ b. exclusive_or b false) (letters_clash_of_I (letter_at v q)))
anticommute-parts (x ∷ p) [] q = sym (ap (λ b. exclusive_or b false) (clash-I (letter_at (x ∷ p) q)))
anticommute-parts (x ∷ p) (y ∷ v) zero =
    ap (λ b. exclusive_or (letters_clash x y) (exclusive_or b (anticommute p v))) (sym (clash-I x))
anticommute-parts (x ∷ p) (y ∷ v) (suc q) =
    ap (exclusive_or (letters_clash x y)) (anticommute-parts p v q)
    ∙ exclusive_or_left_comm (letters_clash x y) (letters_clash (letter_at p q) (letter_at v q)) (anticommute p (slice_set v q I))

-- it is the same to clear a qubit of one word or of the other
pub anticommute-cleared : (v w : List Letter) (q : ℕ) → anticommute (slice_set v q I) w ≡ anticommute v (slice_set w q I)
anticommute-cleared [] w q = refl
anticommute-cleared (x ∷ v) [] zero = refl
anticommute-cleared (x ∷ v) [] (suc q) = refl
anticommute-cleared (x ∷ v) (y ∷ w) zero = ap (λ b. exclusive_or b (anticommute v w)) (letters_clash_of_I y ∙ sym (clash-I x))
anticommute-cleared (x ∷ v) (y ∷ w) (suc q) = ap (exclusive_or (letters_clash x y)) (anticommute-cleared v w q)
