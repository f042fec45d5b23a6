-- The factors that terms make at successive qubits are those of their word there.
use Rattle.std.proofs.Common.{◌≡◌, ℕ, zero, suc, ◌+◌, ◌<◌, ◌≤◌, List, [], ◌∷◌, ◌++◌, length, get_or, refl, sym, ap, ap₂, subst, ◌∙◌, arith}
use Rattle.std.specs.Prelude.{All, ◌⊎◌}
use Rattle.std.specs.List.{flat_map, range_with_len}
use Rattle.std.proofs.lemmas.List.Elements.{All-cons}
use Rattle.pauli_word.specs.declared.letter.Letter.{Letter}
use Rattle.pauli_word.specs.declared.letter.Letter.TheVariants.{I}
use Rattle.pauli_word.specs.Words.{letter_at}
use Rattle.step_model.specs.declared.step.Term.{Term}
use Rattle.step_model.specs.Listing.{word_of_terms}
use Rattle.step_model.specs.WellFormed.{TermsFit}
use Rattle.step_model.proofs.StepNumbers.{length-word_of_terms}
use Rattle.fault_list.specs.FaultLines.{factor_at, factors}
use Rattle.fault_list.specs.private.FactorTexts.{letter_factor, letter_factors, term_factors}
use Rattle.fault_list.specs.private.TermLetters.{letter_in}
use Rattle.fault_list.proofs.TermLemmas.{letter_at-word, none_between}
use Rattle.fault_list.proofs.FactorLemmas.{below-append, factors_below, factors_past}

-- letters that are those of terms make their factors
pub gathered_factors : (terms : List Term) (q : ℕ) (letters : List Letter) → ((k : ℕ) → k < length letters → get_or letters k I ≡ letter_in terms (q + k)) → letter_factors q letters ≡ term_factors terms q (length letters)
gathered_factors terms q [] are = refl
gathered_factors terms q (a ∷ letters) are =
    let first : q + 0 ≡ q = omega arith in
    ap₂ (λ b rest. letter_factor q b ++ rest)
    (are 0 (omega arith) ∙ ap (letter_in terms) first)
    (gathered_factors terms (q + 1) letters (λ k below.
    let next : q + suc k ≡ q + 1 + k = omega arith in
    are (suc k) (omega (arith, below)) ∙ ap (letter_in terms) next))

-- no term stands between these two qubits
abbrev pub NoneBetween : List Term → ℕ → ℕ → Type 0
NoneBetween terms from next = All (λ term. (term.qubit < from) ⊎ (next ≤ term.qubit)) terms

-- a term more that doesn't stand there
pub none_more : (term : Term) (rest left : List Term) (from next : ℕ) → left ≡ term ∷ rest → (term.qubit < from) ⊎ (next ≤ term.qubit) → NoneBetween rest from next → NoneBetween left from next
none_more term rest left from next parts away others =
    subst (λ ts. NoneBetween ts from next) (sym parts)
    (All-cons (λ (t : Term). (t.qubit < from) ⊎ (next ≤ t.qubit)) term rest away others)

factors_in_word : (n : ℕ) (terms : List Term) (q span : ℕ) → TermsFit n terms → q + span ≤ n → flat_map (factor_at (word_of_terms n terms)) (range_with_len q span) ≡ term_factors terms q span
factors_in_word n terms q zero fit within = refl
factors_in_word n terms q (suc span) fit within =
    ap₂ (λ a rest. letter_factor q a ++ rest)
    (letter_at-word n terms q fit (omega (arith, within)))
    (factors_in_word n terms (q + 1) span fit (omega (arith, within)))

gap : (n : ℕ) (terms : List Term) (from next : ℕ) → TermsFit n terms → next ≤ n → NoneBetween terms from next → (q : ℕ) → from ≤ q → q < next → letter_at (word_of_terms n terms) q ≡ I
gap n terms from next fit within lowest q after below =
    letter_at-word n terms q fit (omega (arith, within, below)) ∙ none_between terms from next q lowest after below

pub none_before : (n : ℕ) (terms : List Term) (next : ℕ) → TermsFit n terms → next ≤ n → NoneBetween terms 0 next → factors_below (word_of_terms n terms) next ≡ []
none_before n terms next fit within lowest =
    factors_past (word_of_terms n terms) 0 next (omega arith) (gap n terms 0 next fit within lowest)

pub span_more : (n : ℕ) (terms : List Term) (q span next : ℕ) → TermsFit n terms → q + span ≤ next → next ≤ n → NoneBetween terms (q + span) next → factors_below (word_of_terms n terms) next ≡ factors_below (word_of_terms n terms) q ++ term_factors terms q span
span_more n terms q span next fit after within lowest =
    let w = word_of_terms n terms in
    factors_past w (q + span) next after (gap n terms (q + span) next fit within lowest)
    ∙ (below-append w q span
    ∙ ap (λ rest. factors_below w q ++ rest) (factors_in_word n terms q span fit (omega (arith, after, within))))

pub all_below : (n : ℕ) (terms : List Term) (q : ℕ) → q ≤ n → n ≤ q → factors_below (word_of_terms n terms) q ≡ factors (word_of_terms n terms)
all_below n terms q within past =
    let whole : q ≡ length (word_of_terms n terms) = omega (arith, within, past, length-word_of_terms n terms) in
    ap (factors_below (word_of_terms n terms)) whole
