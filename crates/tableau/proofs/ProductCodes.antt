-- The word that factors make: factor by factor it is multiplied into a word, or into a code.
use Rattle.std.proofs.Common.{◌≡◌, ◌≢◌, ◌+◌, ◌<◌, ◌≤◌, ℕ, false, List, [], ◌∷◌, length, set, take, drop, get_or, refl, sym, ap, ap₂, subst, ◌∙◌, length-set, get_or-set_other, arith}
use Rattle.std.proofs.lemmas.List.{length-replicate}
use Rattle.std.proofs.lemmas.List.Elements.{All-cons, All-head, All-nil, All-tail, All-weaker}
use Rattle.gate_table.proofs.WordImageLaws.{letter_at-none}
use Rattle.pauli_word.specs.declared.letter.Letter.{Letter}
use Rattle.pauli_word.specs.declared.letter.Letter.TheVariants.{I, Z}
use Rattle.pauli_word.specs.Letters.{letter_product}
use Rattle.pauli_word.specs.Words.{Signed, signed, anticommute, letter_at, letters_product, lone_letter, no_letters, product}
use Rattle.pauli_word.proofs.LetterLaws.{letter_product-I}
use Rattle.pauli_word.proofs.LoneLetters.{length-lone_letter, letters_product-lone_letter, letters_product_of_no_letters}
use Rattle.pauli_word.proofs.WordLaws.{length-letters_product, letters_product_assoc, letters_product_comm}
use Rattle.tableau.specs.Products.{AreWithin, word_of_factors}
use Rattle.tableau.specs.Rows.{Rows, row_count}
use Rattle.tableau.specs.private.Decoding.{rows_seen}
use Rattle.tableau.specs.private.Encoding.{Pair, word_of, pair_at, IsTableau, HasLength}
use Rattle.tableau.specs.private.EncodingSteps.{code_of}
use Rattle.tableau.specs.private.Factors.{AreBetween, NameNone}
use Rattle.tableau.proofs.FirstFactors.{Factor, rest_left, holds_more, held_before}
use Rattle.tableau.proofs.KeptRows.{kept_size}
use Rattle.tableau.proofs.PairWords.{code_added, code_commutes, pair_read, pair_size}

pub length-word_of_factors : (n : ℕ) (factors : List Factor) → length (word_of_factors n factors) ≡ n
length-word_of_factors n [] = length-replicate n I
length-word_of_factors n (factor ∷ factors) =
    length-letters_product (lone_letter n factor.0 factor.1) (word_of_factors n factors)
    (length-lone_letter n factor.0 factor.1 ∙ sym (length-word_of_factors n factors))
    ∙ length-lone_letter n factor.0 factor.1

-- the first of the factors that are left, and those behind it
module _ (n : ℕ) (left : List Factor) (factor : Factor) (rest : List Factor) (first : left ≡ factor ∷ rest) where
  pub first_within : AreWithin n left → factor.0 < n
  first_within within = All-head (λ f. f.0 < n) factor rest (subst (AreWithin n) first within)

  pub rest_within : AreWithin n left → AreWithin n rest
  rest_within within = All-tail (λ f. f.0 < n) factor rest (subst (AreWithin n) first within)

  pub fewer : length rest < length left
  fewer = omega (arith, ap length first)

-- the word so far, times that of the factors that are left, is the word of all
abbrev pub IsProductSoFar : ℕ → List Factor → List Factor → List Letter → Type 0
IsProductSoFar n left all w = letters_product w (word_of_factors n left) ≡ word_of_factors n all

pub product_none : (n : ℕ) (all : List Factor) → IsProductSoFar n all all (no_letters n)
product_none n all = letters_product_of_no_letters n (word_of_factors n all) (length-word_of_factors n all)

pub product_more : (n : ℕ) (factor : Factor) (rest all : List Factor) (w : List Letter) → length w ≡ n → factor.0 < n → IsProductSoFar n (factor ∷ rest) all w → IsProductSoFar n rest all (set w factor.0 (letter_product factor.1 (letter_at w factor.0)))
product_more n factor rest all w size within so_far =
    let lone = lone_letter n factor.0 factor.1 in
    ap (λ v. letters_product v (word_of_factors n rest)) (sym (letters_product-lone_letter n w factor.0 factor.1 size within) ∙ letters_product_comm lone w)
    ∙ letters_product_assoc w lone (word_of_factors n rest)
    ∙ so_far

pub product_all : (n : ℕ) (all : List Factor) (w : List Letter) → length w ≡ n → IsProductSoFar n [] all w → w ≡ word_of_factors n all
product_all n all w size so_far =
    sym (letters_product_comm w (no_letters n) ∙ letters_product_of_no_letters n w size) ∙ so_far

-- this is the code of the product of so many first factors, which are at qubits from `lowest` to `highest`, and no two at one
pub record IsCodeSoFar (n : ℕ) (rows : List Pair) (code : Signed) (left all : List Factor) (count lowest highest : ℕ) : Type 0 where
  pub word : List Letter
  pub size : length word ≡ n
  pub coded : code ≡ code_of n rows word
  pub so_far : IsProductSoFar n left all word
  pub rest : drop count all ≡ left
  pub between : AreBetween lowest highest (take count all)
  pub apart : (qubit : ℕ) → NameNone qubit (take count all) → letter_at word qubit ≡ I

pub first_coded : (n : ℕ) (rows : List Pair) (code : Signed) (factor : Factor) (rest : List Factor) → code ≡ code_of n rows (lone_letter n factor.0 factor.1) → IsCodeSoFar n rows code rest (factor ∷ rest) 1 factor.0 factor.0
first_coded n rows code factor rest coded =
    record {
      word = lone_letter n factor.0 factor.1;
      size = length-lone_letter n factor.0 factor.1;
      coded = coded;
      so_far = refl;
      rest = refl;
      between = All-cons (λ (f : Factor). (factor.0 ≤ f.0) × (f.0 ≤ factor.0)) factor [] (omega arith, omega arith) (All-nil (λ (f : Factor). (factor.0 ≤ f.0) × (f.0 ≤ factor.0)));
      apart = λ qubit none.
          let ne : factor.0 ≢ qubit = All-head (λ (f : Factor). f.0 ≢ qubit) factor [] none in
          get_or-set_other (no_letters n) factor.0 qubit factor.1 I (λ same. ne (sym same)) ∙ letter_at-none n qubit;
    }

module _ (rows : List Pair) (is : IsTableau (length rows) rows) where
  abbrev n : ℕ
  n = length rows

  module _ (code : Signed) (all : List Factor) (count lowest highest : ℕ) where
    -- a factor more
    module _ (factor : Factor) (rest : List Factor) (before : IsCodeSoFar n rows code (factor ∷ rest) all count lowest highest) (inside : factor.0 < n) (apart : NameNone factor.0 (take count all)) (r : Pair) (r_is : r ≡ get_or rows factor.0 r) where
      at_factor : letter_at before.word factor.0 ≡ I
      at_factor = before.apart factor.0 apart

      code_size : length code.letters ≡ n
      code_size = ap (λ c. length c.letters) before.coded ∙ is.clifford.keeps.size (signed before.word false) before.size

      pub more_size : HasLength (length code.letters) r
      more_size = subst (λ m. HasLength m r) (sym code_size) (pair_size rows is factor.0 r inside r_is)

      pub more_commutes : anticommute code.letters r.1.letters ≡ false
      more_commutes =
          ap₂ (λ c v. anticommute c.letters v.1.letters) before.coded (pair_read n rows factor.0 r inside r_is)
          ∙ code_commutes rows is before.word factor.0 before.size inside at_factor Z

      pub more_coded : (new : Signed) (low high : ℕ) → new ≡ product code (word_of (length code.letters) r factor.1) → low ≤ lowest → low ≤ factor.0 → highest ≤ high → factor.0 ≤ high → IsCodeSoFar n rows new rest all (count + 1) low high
      more_coded new low high new_is low_below low_at high_above high_at =
          record {
            word = set before.word factor.0 factor.1;
            size = length-set before.word factor.0 factor.1 ∙ before.size;
            coded =
                new_is
                ∙ (ap₂ (λ m v. product code (word_of m v factor.1)) code_size (pair_read n rows factor.0 r inside r_is)
                ∙ (ap (λ c. product c (word_of n (pair_at n rows factor.0) factor.1)) before.coded
                ∙ code_added rows is before.word factor.0 before.size inside at_factor factor.1));
            so_far =
                subst (IsProductSoFar n rest all) (ap (set before.word factor.0) (ap (letter_product factor.1) at_factor ∙ letter_product-I factor.1))
                (product_more n factor rest all before.word before.size inside before.so_far);
            rest = rest_left count all rest factor before.rest;
            between =
                holds_more (λ (f : Factor). (low ≤ f.0) × (f.0 ≤ high)) count all rest factor before.rest
                (All-weaker (λ (f : Factor). (lowest ≤ f.0) × (f.0 ≤ highest)) (λ (f : Factor). (low ≤ f.0) × (f.0 ≤ high)) (λ f h. (omega (arith, h.0, low_below), omega (arith, h.1, high_above))) (take count all) before.between)
                (low_at, high_at);
            apart = λ qubit none.
                let parts = held_before (λ (f : Factor). f.0 ≢ qubit) count all rest factor before.rest none in
                get_or-set_other before.word factor.0 qubit factor.1 I (λ same. parts.1 (sym same)) ∙ before.apart qubit parts.0;
          }

    -- no factor is left
    pub all_coded : IsCodeSoFar n rows code [] all count lowest highest → code ≡ code_of n rows (word_of_factors n all)
    all_coded done = done.coded ∙ ap (code_of n rows) (product_all n all done.word done.size done.so_far)

-- a product of as many letters as there are rows kept, whose code is this, is that of as many as were seen
pub product_coded : (rows : List Pair) (old : Rows) (is : IsTableau (length rows) rows) (same : rows_seen rows ≡ old) (factors : List Factor) (code : Signed)
    → code ≡ code_of (length rows) rows (word_of_factors (length rows) factors) → code ≡ code_of (length rows) rows (word_of_factors (row_count old) factors)
product_coded rows old is same factors code coded =
    coded ∙ ap (λ n. code_of (length rows) rows (word_of_factors n factors)) (kept_size rows old is same)
