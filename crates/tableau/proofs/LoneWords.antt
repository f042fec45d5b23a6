-- A word with one letter: it has I at all other qubits, and changes another word at its qubit alone.
use Rattle.std.proofs.Common.{◌≡◌, ◌≢◌, ◌<◌, ℕ, zero, suc, length, set, refl, ap, ap₂, ◌∙◌}
use Rattle.std.proofs.lemmas.List.{get_or-set_other}
use Rattle.pauli_word.specs.declared.letter.Letter.{Letter}
use Rattle.pauli_word.specs.declared.letter.Letter.TheVariants.{I}
use Rattle.pauli_word.specs.Letters.{is_minus, letter_power, letter_product}
use Rattle.pauli_word.specs.Parity.{exclusive_or}
use Rattle.pauli_word.specs.Words.{Signed, signed, with_sign_changed, product, no_letters, letter_at, lone_letter}
use Rattle.pauli_word.proofs.LoneLetters.{letters_product-lone_letter, letters_power-lone_letter}
use Rattle.pauli_word.proofs.Parities.{exclusive_or_comm}
use Rattle.tableau.specs.private.EncodingSteps.{lone}

letter_at_none : (n i : ℕ) → letter_at (no_letters n) i ≡ I
letter_at_none zero i = refl
letter_at_none (suc n) zero = refl
letter_at_none (suc n) (suc i) = letter_at_none n i

pub letter_elsewhere : (n q i : ℕ) (a : Letter) → i ≢ q → letter_at (lone_letter n q a) i ≡ I
letter_elsewhere n q i a apart = get_or-set_other (no_letters n) q i a I apart ∙ letter_at_none n i

-- a lone letter times a word
pub product_of_lone : (n q : ℕ) (a : Letter) (w : Signed) → length w.letters ≡ n → q < n
    → product (lone n q a) w ≡ with_sign_changed (is_minus (letter_power a (letter_at w.letters q))) (signed (set w.letters q (letter_product a (letter_at w.letters q))) w.negative)
product_of_lone n q a w size inside =
    ap₂ signed (letters_product-lone_letter n w.letters q a size inside)
    (ap (λ p. exclusive_or w.negative (is_minus p)) (letters_power-lone_letter n w.letters q a size inside)
    ∙ exclusive_or_comm w.negative (is_minus (letter_power a (letter_at w.letters q))))
