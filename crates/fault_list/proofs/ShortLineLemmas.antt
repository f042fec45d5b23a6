-- The word of letters at ascending qubits is their factors in their order.
use Rattle.std.proofs.Common.{◌≡◌, ◌≢◌, ℕ, suc, inl, inr, ◌+◌, ◌-◌, ◌<◌, ◌≤◌, ◌^◌, true, false, List, [], ◌∷◌, ◌++◌, length, drop, get_or, refl, sym, ap, ap₂, ◌∙◌, arith}
use Rattle.std.specs.Prelude.{Bool, codes, decimal, not, map, if◌then◌else◌}
use Rattle.std.specs.List.{flat_map, range_with_len}
use Rattle.std.proofs.lemmas.Bool.{not-true}
use Rattle.std.proofs.lemmas.Bool.Decides.{eqb_tells, leb_tells}
use Rattle.std.proofs.lemmas.Fmt.{length-decimal-le}
use Rattle.std.proofs.lemmas.List.Concat.{flat_map-append}
use Rattle.std.proofs.lemmas.List.Elements.{All-head, All-tail}
use Rattle.pauli_word.specs.declared.letter.Letter.{Letter}
use Rattle.pauli_word.specs.declared.letter.Letter.TheVariants.{I}
use Rattle.pauli_word.specs.Letters.{letter_product}
use Rattle.pauli_word.specs.Words.{letter_at}
use Rattle.pauli_word.proofs.LetterLaws.{letter_product-I}
use Rattle.step_model.specs.declared.step.Term.{Term}
use Rattle.step_model.specs.Listing.{word_of_terms, is_I}
use Rattle.step_model.specs.WellFormed.{TermsFit}
use Rattle.step_model.proofs.StepNumbers.{length-word_of_terms}
use Rattle.fault_list.specs.FaultLines.{factor_text, factor_at, factors, product_text, word_text}
use Rattle.fault_list.specs.private.TermLetters.{letter_in, is_ordered, starred_factors}
use Rattle.step_model.proofs.RangeLemmas.{range-append}
use Rattle.fault_list.proofs.FactorLemmas.{none_among}
use Rattle.fault_list.proofs.TermLemmas.{letter_at-word}

abbrev no_term : Term
no_term = record { qubit = 0; letter = I }

abbrev pub term_at : List Term → ℕ → Term
term_at terms i = get_or terms i no_term

-- what the test says of the first one
pub record IsFirst (from : ℕ) (term : Term) (terms : List Term) : Type 0 where
  pub after : from ≤ term.qubit
  pub acts : is_I term.letter ≡ false
  pub rest : is_ordered (term.qubit + 1) terms ≡ true

first_acts : (from : ℕ) (term : Term) (terms : List Term) (i : Bool) → is_I term.letter ≡ i → from ≤ term.qubit → (if i then false else is_ordered (term.qubit + 1) terms) ≡ true → IsFirst from term terms
first_acts from term terms true is after h = absurd (cc)
first_acts from term terms false is after h = record { after = after; acts = is; rest = h }

first_ordered : (from : ℕ) (term : Term) (terms : List Term) → is_ordered from (term ∷ terms) ≡ true → IsFirst from term terms
first_ordered from term terms h = elim (leb_tells (suc term.qubit) from) [
  | inl below ↦
      let no : false ≡ true = sym (ap (λ b. if b then false else if is_I term.letter then false else is_ordered (term.qubit + 1) terms) below.0) ∙ h in
      absurd (cc)
  | inr after ↦
      let rest = sym (ap (λ b. if b then false else if is_I term.letter then false else is_ordered (term.qubit + 1) terms) after.0) ∙ h in
      first_acts from term terms (is_I term.letter) refl (omega (arith, after.1)) rest
]

-- the test of one term more
pub ordered_next : (term : Term) (terms : List Term) (from : ℕ) → from ≤ term.qubit → not (is_I term.letter) ≡ true → is_ordered from (term ∷ terms) ≡ is_ordered (term.qubit + 1) terms
ordered_next term terms from after acts =
    let rest = is_ordered (term.qubit + 1) terms in
    elim (leb_tells (suc term.qubit) from) [
      | inl below ↦ absurd (omega (arith, below.1, after))
      | inr tells ↦
          ap (λ b. if b then false else if is_I term.letter then false else rest) tells.0
          ∙ ap (λ b. if b then false else rest) (not-true (is_I term.letter) acts)
    ]

letter_in-other : (term : Term) (terms : List Term) (q : ℕ) → term.qubit ≢ q → letter_in (term ∷ terms) q ≡ letter_in terms q
letter_in-other term terms q other = elim (eqb_tells term.qubit q) [
  | inl same ↦ absurd (other same.1)
  | inr away ↦ ap (λ b. letter_product (if b then term.letter else I) (letter_in terms q)) away.0
]

letter_in-first : (term : Term) (terms : List Term) → letter_in terms term.qubit ≡ I → letter_in (term ∷ terms) term.qubit ≡ term.letter
letter_in-first term terms alone = elim (eqb_tells term.qubit term.qubit) [
  | inl same ↦
      ap₂ (λ b a. letter_product (if b then term.letter else I) a) same.0 alone
      ∙ letter_product-I term.letter
  | inr away ↦ absurd (away.1 refl)
]

none_below : (terms : List Term) (from q : ℕ) → is_ordered from terms ≡ true → q < from → letter_in terms q ≡ I
none_below [] from q ordered below = refl
none_below (term ∷ terms) from q ordered below =
    let first = first_ordered from term terms ordered in
    letter_in-other term terms q (λ e. omega (arith, below, first.after, e))
    ∙ none_below terms (term.qubit + 1) q first.rest (omega (arith, below, first.after))

abbrev factor_of : Term → List ℕ
factor_of term = factor_text term.qubit term.letter

factor_at-letter : (w : List Letter) (q : ℕ) (a : Letter) → letter_at w q ≡ a → is_I a ≡ false → factor_at w q ≡ factor_text q a ∷ []
factor_at-letter w q a here acts =
    ap (λ b. if is_I b then [] else factor_text q b ∷ []) here
    ∙ ap (λ t. if t then [] else factor_text q a ∷ []) acts

-- the factors from a qubit on of a word that has these letters there
ordered_factors : (n : ℕ) (w : List Letter) (terms : List Term) (from : ℕ) → from ≤ n → TermsFit n terms → is_ordered from terms ≡ true → ((q : ℕ) → from ≤ q → q < n → letter_at w q ≡ letter_in terms q) → flat_map (factor_at w) (range_with_len from (n - from)) ≡ map factor_of terms
ordered_factors n w [] from within fit ordered agree =
    none_among w from (n - from) (λ q after below. agree q after (omega (arith, within, below)))
ordered_factors n w (term ∷ terms) from within fit ordered agree =
    let first = first_ordered from term terms ordered in
    let q = term.qubit in
    let inside = All-head (λ (t : Term). t.qubit < n) term terms fit in
    let counted : n - from ≡ (q - from) + suc (n - (q + 1)) = omega (arith, inside, first.after) in
    let reached : from + (q - from) ≡ q = omega (arith, first.after) in
    let here = agree q first.after inside ∙ letter_in-first term terms (none_below terms (q + 1) q first.rest (omega arith)) in
    ap (λ k. flat_map (factor_at w) (range_with_len from k)) counted
    ∙ (ap (flat_map (factor_at w)) (range-append from (q - from) (suc (n - (q + 1))))
    ∙ (flat_map-append (factor_at w) (range_with_len from (q - from)) (range_with_len (from + (q - from)) (suc (n - (q + 1))))
    ∙ (ap₂ (λ fs k. fs ++ flat_map (factor_at w) (range_with_len k (suc (n - (q + 1)))))
    (none_among w from (q - from) (λ k after below. agree k after (omega (arith, below, inside, reached)) ∙ (letter_in-other term terms k (λ e. omega (arith, e, below, reached)) ∙ none_below terms (q + 1) k first.rest (omega (arith, below, reached)))))
    reached
    ∙ ap₂ (λ f fs. f ++ fs) (factor_at-letter w q term.letter here first.acts)
    (ordered_factors n w terms (q + 1) (omega (arith, inside)) (All-tail (λ (t : Term). t.qubit < n) term terms fit) first.rest
    (λ k after below. agree k (omega (arith, after, first.after)) below ∙ letter_in-other term terms k (λ e. omega (arith, e, after)))))))

word_factors : (n : ℕ) (terms : List Term) → TermsFit n terms → is_ordered 0 terms ≡ true → factors (word_of_terms n terms) ≡ map factor_of terms
word_factors n terms fit ordered =
    let whole : length (word_of_terms n terms) ≡ n - 0 = omega (arith, length-word_of_terms n terms) in
    ap (λ k. flat_map (factor_at (word_of_terms n terms)) (range_with_len 0 k)) whole
    ∙ ordered_factors n (word_of_terms n terms) terms 0 (omega arith) fit ordered (λ q after below. letter_at-word n terms q fit below)

starred_map : (terms : List Term) → flat_map (λ g. codes "*" ++ g) (map factor_of terms) ≡ starred_factors terms
starred_map [] = refl
starred_map (term ∷ terms) = ap (λ rest. (codes "*" ++ factor_of term) ++ rest) (starred_map terms)

pub ordered_text : (n : ℕ) (terms : List Term) → 1 ≤ length terms → TermsFit n terms → is_ordered 0 terms ≡ true → word_text (word_of_terms n terms) ≡ factor_text (term_at terms 0).qubit (term_at terms 0).letter ++ starred_factors (drop 1 terms)
ordered_text n [] some fit ordered = absurd (omega (arith, some))
ordered_text n (term ∷ terms) some fit ordered =
    ap product_text (word_factors n (term ∷ terms) fit ordered)
    ∙ ap (λ rest. factor_of term ++ rest) (starred_map terms)

pub digits_of_a_number : (n : ℕ) → n < 2 ^ 32 → length (decimal n) ≤ 10
digits_of_a_number n h = length-decimal-le 10 n (omega arith) (omega (arith, h)) (omega (arith, h))
