-- The clashes with a product of letters, from those with two parts of it.
use Rattle.std.proofs.Common.{◌≡◌, ℕ, zero, suc, ◌+◌, ◌<◌, Bool, List, ◌∷◌, ◌++◌, length, map, refl, ap, ap₂, subst, sym, ◌∙◌}
use Rattle.std.specs.Prelude.{All}
use Rattle.std.specs.List.{range_with_len}
use Rattle.std.proofs.lemmas.List.{length-map}
use Rattle.bit_rows.specs.Rows.{xor_rows}
use Rattle.pauli_word.specs.declared.letter.Letter.{Letter}
use Rattle.pauli_word.specs.Parity.{exclusive_or}
use Rattle.pauli_word.specs.Words.{anticommute, letter_at}
use Rattle.pauli_word.proofs.Parities.{exclusive_or_comm}
use Rattle.step_model.specs.declared.step.Term.{Term}
use Rattle.step_model.specs.Listing.{word_of_terms}
use Rattle.trackers.specs.private.Transposed.{word_at}
use Rattle.trackers.proofs.WordLemmas.{anticommute-terms}

-- whether the word of a target anticommutes with the product of terms
abbrev pub is_hit : List (List Letter) → List Term → ℕ → Bool
is_hit columns terms t = anticommute (word_at columns t) (word_of_terms (length columns) terms)

-- for each target, those with the back half and those with the front half, added up
pub clashes_of_halves : (m : ℕ) (columns : List (List Letter)) (front back terms : List Term) (p q : List Bool) → front ++ back ≡ terms → All (λ term. term.qubit < length columns) front
    → q ≡ map (is_hit columns back) (range_with_len 0 m) → p ≡ map (is_hit columns front) (range_with_len 0 m) → xor_rows q p ≡ map (is_hit columns terms) (range_with_len 0 m)
clashes_of_halves m columns front back terms p q whole low is_q is_p = ap₂ xor_rows is_q is_p ∙ rows 0 m
  where
    both : (t : ℕ) → exclusive_or (is_hit columns back t) (is_hit columns front t) ≡ is_hit columns terms t
    both t =
        exclusive_or_comm (is_hit columns back t) (is_hit columns front t)
        ∙ (sym (subst (λ n. All (λ term. term.qubit < n) front → anticommute (word_at columns t) (word_of_terms n (front ++ back)) ≡ exclusive_or (anticommute (word_at columns t) (word_of_terms n front)) (anticommute (word_at columns t) (word_of_terms n back)))
        (length-map columns (λ column. letter_at column t)) (anticommute-terms (word_at columns t) front back) low)
        ∙ ap (λ ts. is_hit columns ts t) whole)

    rows : (k n : ℕ) → xor_rows (map (is_hit columns back) (range_with_len k n)) (map (is_hit columns front) (range_with_len k n)) ≡ map (is_hit columns terms) (range_with_len k n)
    rows k zero = refl
    rows k (suc n) = ap₂ (λ odd more. odd ∷ more) (both k) (rows (k + 1) n)
