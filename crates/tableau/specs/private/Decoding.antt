-- From a code back to its word. The rows of the circuit's own map are such words: stabilizer row i is the word whose code
-- is Z at qubit i, and destabilizer row i the word whose code is X there. A word has its x bit set at a qubit where its
-- code anticommutes with the code of Z there, and its z bit where its code anticommutes with that of X.
-- (Aaronson and Gottesman, Phys. Rev. A 70, 052328 (2004), section III; Gidney, Quantum 5, 497 (2021).)
use Rattle.std.specs.Prelude.{ℕ, false, List, [], ◌∷◌, length, map}
use Rattle.std.specs.List.{range_with_len}
use Rattle.pauli_word.specs.Bits.{letter_of}
use Rattle.pauli_word.specs.declared.letter.Letter.{Letter}
use Rattle.pauli_word.specs.declared.letter.Letter.TheVariants.{X, Z}
use Rattle.pauli_word.specs.Parity.{exclusive_or}
use Rattle.pauli_word.specs.Words.{Signed, signed, anticommute}
use Rattle.tableau.specs.private.Encoding.{Pair, encoded}
use Rattle.tableau.specs.private.EncodingSteps.{lone}
use Rattle.tableau.specs.Rows.{Rows}

-- the letters of the word whose code has the letters p
abbrev pub decoded_letters : List Pair → List Letter → List Letter
decoded_letters [] p = []
decoded_letters (r ∷ rows) p = letter_of (anticommute p r.1.letters) (anticommute p r.0.letters) ∷ decoded_letters rows p

-- the word whose code is p: its letters, with the sign that makes its code p
abbrev pub decoded : ℕ → List Pair → Signed → Signed
decoded n rows p =
    let letters = decoded_letters rows p.letters in
    signed letters (exclusive_or p.negative (encoded n rows (signed letters false)).negative)

-- the words whose codes are X and Z at qubit i
abbrev pub decoded_pair : ℕ → List Pair → ℕ → Pair
decoded_pair n rows i = (decoded n rows (lone n i X), decoded n rows (lone n i Z))

-- these words, for each qubit
abbrev pub decoded_pairs : ℕ → List Pair → List Pair
decoded_pairs n rows = map (decoded_pair n rows) (range_with_len 0 n)

-- pairs as rows: the words of Z are stabilizers, those of X destabilizers
abbrev pub rows_of : List Pair → Rows
rows_of pairs = record { stabilizers = map (λ r. r.1) pairs; destabilizers = map (λ r. r.0) pairs }

-- the rows of the circuit's map, from those of its inverse
abbrev pub rows_seen : List Pair → Rows
rows_seen rows = rows_of (decoded_pairs (length rows) rows)
