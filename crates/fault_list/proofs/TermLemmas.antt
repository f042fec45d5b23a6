-- The word that letters at qubits make, qubit by qubit.
use Rattle.std.proofs.Common.{◌≡◌, ◌≢◌, ℕ, inl, inr, ◌<◌, ◌≤◌, List, [], ◌∷◌, get_or, refl, sym, ap, ap₂, ◌∙◌, arith}
use Rattle.std.specs.Prelude.{if◌then◌else◌, All, ◌⊎◌}
use Rattle.std.proofs.lemmas.Bool.Decides.{eqb_tells}
use Rattle.std.proofs.lemmas.List.{length-replicate, get_or-replicate, get_or-set_same, get_or-set_other}
use Rattle.std.proofs.lemmas.List.Elements.{All-head, All-tail}
use Rattle.pauli_word.specs.declared.letter.Letter.{Letter}
use Rattle.pauli_word.specs.declared.letter.Letter.TheVariants.{I}
use Rattle.pauli_word.specs.Letters.{letter_product}
use Rattle.pauli_word.specs.Words.{letter_at, letters_product, lone_letter, no_letters}
use Rattle.pauli_word.proofs.LetterLaws.{letter_product_assoc}
use Rattle.pauli_word.proofs.LoneLetters.{length-lone_letter}
use Rattle.pauli_word.proofs.WordLaws.{letters_product_assoc, letters_product_comm}
use Rattle.pauli_word.proofs.WordPlaces.{letter_at-product}
use Rattle.step_model.specs.declared.step.Term.{Term}
use Rattle.step_model.specs.Listing.{word_of_terms}
use Rattle.step_model.specs.WellFormed.{TermsFit}
use Rattle.step_model.proofs.StepNumbers.{length-word_of_terms}
use Rattle.fault_list.specs.private.TermLetters.{letter_here, letter_in}

letter_at-lone_letter : (n : ℕ) (term : Term) (q : ℕ) → term.qubit < n → q < n → letter_at (lone_letter n term.qubit term.letter) q ≡ letter_here term q
letter_at-lone_letter n term q inside below = elim (eqb_tells term.qubit q) [
  | inl same ↦
      ap (λ i. get_or (lone_letter n term.qubit term.letter) i I) (sym same.1)
      ∙ (get_or-set_same (no_letters n) term.qubit term.letter I (omega (arith, inside, length-replicate n I))
      ∙ ap (λ b. if b then term.letter else I) (sym same.0))
  | inr other ↦
      get_or-set_other (no_letters n) term.qubit q term.letter I (λ e. other.1 (sym e))
      ∙ (get_or-replicate n q I I below
      ∙ ap (λ b. if b then term.letter else I) (sym other.0))
]

pub letter_at-word : (n : ℕ) (terms : List Term) (q : ℕ) → TermsFit n terms → q < n → letter_at (word_of_terms n terms) q ≡ letter_in terms q
letter_at-word n [] q fit below = get_or-replicate n q I I below
letter_at-word n (term ∷ terms) q fit below =
    letter_at-product (lone_letter n term.qubit term.letter) (word_of_terms n terms) q
    (length-lone_letter n term.qubit term.letter ∙ sym (length-word_of_terms n terms))
    ∙ ap₂ letter_product
    (letter_at-lone_letter n term q (All-head (λ (t : Term). t.qubit < n) term terms fit) below)
    (letter_at-word n terms q (All-tail (λ (t : Term). t.qubit < n) term terms fit) below)

-- a qubit with no letter has I
pub letter_in-none : (terms : List Term) (q : ℕ) → All (λ term. term.qubit ≢ q) terms → letter_in terms q ≡ I
letter_in-none [] q away = refl
letter_in-none (term ∷ terms) q away = elim (eqb_tells term.qubit q) [
  | inl same ↦ absurd (All-head (λ (t : Term). t.qubit ≢ q) term terms away same.1)
  | inr other ↦
      ap (λ b. letter_product (if b then term.letter else I) (letter_in terms q)) other.0
      ∙ letter_in-none terms q (All-tail (λ (t : Term). t.qubit ≢ q) term terms away)
]

-- between two qubits that were looked for one after the other there is no letter
pub none_between : (terms : List Term) (from next q : ℕ) → All (λ term. (term.qubit < from) ⊎ (next ≤ term.qubit)) terms → from ≤ q → q < next → letter_in terms q ≡ I
none_between terms from next q lowest after below =
    letter_in-none terms q (λ k d within e. elim (lowest k d within) [
      | inl before ↦ omega (arith, before, after, e)
      | inr past ↦ omega (arith, past, below, e)
    ])

-- the letter so far, times that of the terms that are left, stays the same by one term more
pub letter_more : (term : Term) (terms left : List Term) (q : ℕ) (letter all : Letter) → left ≡ term ∷ terms → letter_product letter (letter_in left q) ≡ all → letter_product (letter_product letter (letter_here term q)) (letter_in terms q) ≡ all
letter_more term terms left q letter all parts so_far =
    letter_product_assoc letter (letter_here term q) (letter_in terms q)
    ∙ (ap (λ ts. letter_product letter (letter_in ts q)) (sym parts)
    ∙ so_far)

-- two letters at qubits make one word, whichever comes first
pub two_swapped : (n : ℕ) (a b : Term) → word_of_terms n (b ∷ a ∷ []) ≡ word_of_terms n (a ∷ b ∷ [])
two_swapped n a b =
    let first = lone_letter n a.qubit a.letter in
    let second = lone_letter n b.qubit b.letter in
    sym (letters_product_assoc second first (no_letters n))
    ∙ (ap (λ w. letters_product w (no_letters n)) (letters_product_comm second first)
    ∙ letters_product_assoc first second (no_letters n))
