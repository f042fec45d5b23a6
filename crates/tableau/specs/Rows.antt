-- The rows of a stabilizer tableau: for each qubit a stabilizer row and a destabilizer row, signed words. Any two rows
-- commute, except the stabilizer row and the destabilizer row of the same number. The state is the set of the products of
-- stabilizer rows. Such a product commutes with all stabilizer rows, and of the destabilizer rows it anticommutes with
-- those of its factors alone. So a word is in the state where it commutes with all stabilizer rows, and has the sign of
-- the product of those whose destabilizer rows it anticommutes with. A destabilizer row's sign has no meaning.
-- (Aaronson and Gottesman, Phys. Rev. A 70, 052328 (2004), section III.)
use Rattle.std.specs.Prelude.{◌≡◌, ◌<◌, ℕ, Bool, true, false, not, ◌&&◌, if◌then◌else◌, List, ◌∷◌, length, map, Option, None, Some, IfSome, slice_index_or}
use Rattle.std.specs.List.{list_all}
use Rattle.pauli_word.specs.declared.letter.Letter.{Letter}
use Rattle.pauli_word.specs.Parity.{exclusive_or}
use Rattle.pauli_word.specs.States.{State, is_decided, outcome, collapsed}
use Rattle.pauli_word.specs.Words.{Signed, anticommute, product}
use Rattle.pauli_word.specs.Groups.{identity_word}

-- the rows of both kinds, one a qubit
pub record Rows : Type 0 where
  pub stabilizers : List Signed
  pub destabilizers : List Signed

-- how many qubits there are
abbrev pub row_count : Rows → ℕ
row_count rows = length rows.stabilizers

-- the stabilizer row of a number
abbrev pub stabilizer_at : Rows → ℕ → Signed
stabilizer_at rows i = slice_index_or rows.stabilizers i (identity_word (row_count rows))

-- the destabilizer row of a number
abbrev pub destabilizer_at : Rows → ℕ → Signed
destabilizer_at rows i = slice_index_or rows.destabilizers i (identity_word (row_count rows))

-- for each of these words, whether it anticommutes with w
abbrev pub clashes_with : List Letter → List Signed → List Bool
clashes_with w words = map (λ v. anticommute w v.letters) words

-- whether w commutes with all of these words
abbrev pub commutes_with_all : List Letter → List Signed → Bool
commutes_with_all w words = list_all (λ v. not (anticommute w v.letters)) words

-- the product, in their order, of the words of n letters that are chosen
abbrev pub chosen_product : ℕ → List Signed → List Bool → Signed
chosen_product n (v ∷ words) (c ∷ choice) = product (if c then v else identity_word n) (chosen_product n words choice)
chosen_product n words choice = identity_word n

-- the product of the stabilizer rows whose destabilizer rows anticommute with a word
abbrev pub stabilizer_product : Rows → List Letter → Signed
stabilizer_product rows w = chosen_product (row_count rows) rows.stabilizers (clashes_with w rows.destabilizers)

-- the product of the destabilizer rows whose stabilizer rows anticommute with a word
abbrev pub destabilizer_product : Rows → List Letter → Signed
destabilizer_product rows w = chosen_product (row_count rows) rows.destabilizers (clashes_with w rows.stabilizers)

-- the state of the rows
abbrev pub state_of : Rows → State
state_of rows p =
    commutes_with_all p.letters rows.stabilizers && not (exclusive_or p.negative (stabilizer_product rows p.letters).negative)

-- the state of the rows is s, for all words of their length
abbrev pub HasState : Rows → State → Type 0
HasState rows s = (p : Signed) → length p.letters ≡ row_count rows → state_of rows p ≡ s p

-- a collapse of w is random, and may replace the stabilizer of this row, which is in the state and anticommutes with w
pub record IsReplaceable (rows : Rows) (w : List Letter) (row : ℕ) : Type 0 where
  pub inside : row < row_count rows
  pub random : is_decided (state_of rows) w ≡ false
  pub was_in_state : state_of rows (stabilizer_at rows row) ≡ true
  pub anticommuted : anticommute w (stabilizer_at rows row).letters ≡ true

-- the row is named exactly where a collapse of w is random
abbrev pub NamesRandom : Rows → List Letter → Option ℕ → Type 0
NamesRandom rows w None = is_decided (state_of rows) w ≡ true
NamesRandom rows w (Some row) = IsReplaceable rows w row

-- a collapse of w by a coin, which saw this outcome; it names a row where the outcome is random, whose stabilizer was replaced
-- and gives its letters to the row's destabilizer
pub record IsCollapsed (old new : Rows) (w : List Letter) (coin seen : Bool) (row : Option ℕ) : Type 0 where
  pub len : row_count new ≡ row_count old
  pub outcome_is : seen ≡ outcome (state_of old) w coin
  pub state_is : HasState new (collapsed w coin (state_of old))
  pub named : NamesRandom old w row
  pub becomes_destabilizer : IfSome row (λ k. (destabilizer_at new k).letters ≡ (stabilizer_at old k).letters)

-- rows of which some changes wait to be made in memory, and how many of them do
pub record WaitingRows : Type 0 where
  pub rows : Rows
  pub waiting : ℕ
