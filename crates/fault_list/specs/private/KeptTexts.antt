-- Texts that are kept at the start of a fixed number of bytes. (This project's own.)
use Rattle.std.specs.Prelude.{◌≡◌, ◌<◌, ◌≤◌, ℕ, List, [], ◌∷◌, ◌++◌, Option, Some, codes, decimal, length, take}
use Rattle.step_model.specs.declared.chances.ChanceText.{ChanceText}
use Rattle.step_model.specs.declared.step.Term.{Term}
use Rattle.step_model.specs.Chances.{chance_at}
use Rattle.step_model.specs.Listing.{word_of_terms}
use Rattle.step_model.specs.WellFormed.{TermsFit}
use Rattle.fault_list.specs.FaultLines.{word_text}

-- the first bytes are the digits of a number
pub record HasDigits (number len : ℕ) (bytes : List ℕ) : Type 0 where
  pub some : 0 < len
  pub within : len ≤ 10
  pub digits : take len bytes ≡ decimal number

-- the first bytes, and then the last digit, are the digits of a number
pub record IsCounted (number before last : ℕ) (bytes : List ℕ) : Type 0 where
  pub within : before ≤ 9
  pub digits : take before bytes ++ last ∷ [] ≡ decimal number

-- what stands between the number of a fault and what it does: a probability's text after a space and before one
abbrev pub probability_text : List ℕ → List ℕ
probability_text text = codes " " ++ text ++ codes " "

-- the first bytes are that of the text with a number, where there is one
pub record HasProbability (chances : List ChanceText) (number len : ℕ) (bytes : List ℕ) : Type 0 where
  pub within : len ≤ 32
  pub text : number < length chances → take len bytes ≡ probability_text (chance_at chances number).text

-- the texts of probabilities, and the number of the one that is kept between spaces
pub record KeptProbability : Type 0 where
  pub chances : List ChanceText
  pub number : ℕ

-- the first bytes are the text of the word that letters make, where they are kept
pub record HasWord (letters : Option (List Term)) (len : ℕ) (bytes : List ℕ) : Type 0 where
  pub within : len ≤ 24704
  pub text : (terms : List Term) (qubits : ℕ) → letters ≡ Some terms → TermsFit qubits terms → take len bytes ≡ word_text (word_of_terms qubits terms)
