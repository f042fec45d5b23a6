-- The rows that a tableau keeps: for each qubit the words that X and Z there become under the inverse of the circuit's
-- Clifford map. From these follows what every word becomes under that inverse: its code. A word is in the state exactly
-- where its code is in the state at the start. (Gidney, Quantum 5, 497 (2021): the tableau of the inverse circuit.)
use Rattle.std.specs.Prelude.{◌≡◌, ◌<◌, ℕ, true, List, ◌∷◌, length, slice_index_or}
use Rattle.pauli_word.specs.declared.letter.Letter.{Letter}
use Rattle.pauli_word.specs.declared.letter.Letter.TheVariants.{I, X, Y, Z}
use Rattle.pauli_word.specs.Words.{Signed, with_sign_changed, product}
use Rattle.pauli_word.specs.Groups.{identity_word}
use Rattle.tableau.specs.private.CliffordMaps.{IsClifford}

-- the words of X and of Z at one qubit
abbrev pub Pair : Type 0
Pair = Signed × Signed

-- the pair of a qubit
abbrev pub pair_at : ℕ → List Pair → ℕ → Pair
pair_at n rows q = slice_index_or rows q (identity_word n, identity_word n)

-- the word of a letter; Y is i X Z, which is minus the `product` of X and Z
abbrev pub word_of : ℕ → Pair → Letter → Signed
word_of n r I = identity_word n
word_of n r X = r.0
word_of n r Y = with_sign_changed true (product r.0 r.1)
word_of n r Z = r.1

-- the code of letters: the product of their words, qubit by qubit
abbrev pub letters_encoded : ℕ → List Pair → List Letter → Signed
letters_encoded n (r ∷ rows) (a ∷ p) = product (word_of n r a) (letters_encoded n rows p)
letters_encoded n rows p = identity_word n

-- the code of a word
abbrev pub encoded : ℕ → List Pair → Signed → Signed
encoded n rows p = with_sign_changed p.negative (letters_encoded n rows p.letters)

-- n pairs of words of n letters that are the rows of a Clifford map
pub record IsTableau (n : ℕ) (rows : List Pair) : Type 0 where
  pub count : length rows ≡ n
  pub x_size : (q : ℕ) → q < n → length (pair_at n rows q).0.letters ≡ n
  pub z_size : (q : ℕ) → q < n → length (pair_at n rows q).1.letters ≡ n
  pub clifford : IsClifford n (encoded n rows)

-- both words have n letters
pub record HasLength (n : ℕ) (r : Pair) : Type 0 where
  pub x : length r.0.letters ≡ n
  pub z : length r.1.letters ≡ n
