-- The rows seen of kept pairs: their state is the start state of what words decode to by the pairs.
use Rattle.std.proofs.Common.{◌≡◌, ◌<◌, ℕ, Bool, true, false, not, ◌&&◌, ◌||◌, if◌then◌else◌, List, [], ◌∷◌, length, map, refl, ap, ap₂, sym, subst, ◌∙◌}
use Rattle.std.proofs.lemmas.List.{get_or-map, length-map}
use Rattle.std.proofs.lemmas.Bool.{and_parts}
use Rattle.std.specs.List.{list_all}
use Rattle.pauli_word.specs.Bits.{letter_of}
use Rattle.pauli_word.specs.declared.letter.Letter.{Letter}
use Rattle.pauli_word.specs.declared.letter.Letter.TheVariants.{X, Z}
use Rattle.pauli_word.specs.Parity.{exclusive_or}
use Rattle.pauli_word.specs.States.{State, is_I_or_Z, start_state, is_decided, outcome, collapsed}
use Rattle.pauli_word.specs.Words.{Signed, signed, anticommute, product}
use Rattle.pauli_word.specs.Groups.{identity_word}
use Rattle.tableau.specs.private.Encoding.{Pair, word_of, letters_encoded, encoded, pair_at, IsTableau}
use Rattle.tableau.specs.private.EncodingSteps.{lone}
use Rattle.tableau.specs.private.Decoding.{decoded_letters, decoded, decoded_pairs, rows_of, rows_seen}
use Rattle.tableau.specs.Rows.{row_count, stabilizer_at, destabilizer_at, clashes_with, commutes_with_all, chosen_product, state_of}
use Rattle.tableau.proofs.DecodingLaws.{decoded_size, encode_decode, seen_at, seen_count, seen_encodes}
use Rattle.tableau.proofs.EncodingGates.{code_state}
use Rattle.tableau.proofs.Turns.{product_size}

commuting_seen : (rows : List Pair) (p : List Letter) → commutes_with_all p (map (λ r. r.1) rows) ≡ list_all is_I_or_Z (decoded_letters rows p)
commuting_seen [] p = refl
commuting_seen (r ∷ rows) p =
    ap₂ (λ a b. a && b) (first (anticommute p r.1.letters) (anticommute p r.0.letters)) (commuting_seen rows p)
  where
    first : (a b : Bool) → not a ≡ is_I_or_Z (letter_of a b)
    first false false = refl
    first false true = refl
    first true false = refl
    first true true = refl

pub product_seen : (n : ℕ) (rows : List Pair) (p : List Letter) → list_all is_I_or_Z (decoded_letters rows p) ≡ true → letters_encoded n rows (decoded_letters rows p) ≡ chosen_product n (map (λ r. r.1) rows) (clashes_with p (map (λ r. r.0) rows))
product_seen n [] p h = refl
product_seen n (r ∷ rows) p h =
    let parts = and_parts (is_I_or_Z (letter_of (anticommute p r.1.letters) (anticommute p r.0.letters))) (list_all is_I_or_Z (decoded_letters rows p)) h in
    ap₂ product (first n r (anticommute p r.1.letters) (anticommute p r.0.letters) parts.0) (product_seen n rows p parts.1)
  where
    first : (n : ℕ) (r : Pair) (a b : Bool) → is_I_or_Z (letter_of a b) ≡ true → word_of n r (letter_of a b) ≡ (if b then r.1 else identity_word n)
    first n r false false h = refl
    first n r false true h = refl
    first n r true false h = cc
    first n r true true h = cc

guarded : (b x y : Bool) → (b ≡ true → x ≡ y) → (b && x) ≡ (b && y)
guarded false x y h = refl
guarded true x y h = h refl

module _ (n : ℕ) (rows : List Pair) (count : length rows ≡ n) where
  pub count_seen : row_count (rows_of rows) ≡ n
  count_seen = length-map rows _ ∙ count

  pub state_seen : (p : Signed) → state_of (rows_of rows) p ≡ start_state (decoded n rows p)
  state_seen p =
      ap (λ b. b && not (exclusive_or p.negative (chosen_product (row_count (rows_of rows)) (map (λ r. r.1) rows) (clashes_with p.letters (map (λ r. r.0) rows))).negative)) (commuting_seen rows p.letters)
      ∙ guarded (list_all is_I_or_Z (decoded_letters rows p.letters)) _ _
      (λ h. ap (λ w. not (exclusive_or p.negative w.negative))
      (ap (λ m. chosen_product m (map (λ r. r.1) rows) (clashes_with p.letters (map (λ r. r.0) rows))) count_seen
      ∙ sym (product_seen n rows p.letters h)))

  pub stabilizer_seen : (k : ℕ) → k < n → stabilizer_at (rows_of rows) k ≡ (pair_at n rows k).1
  stabilizer_seen k h = get_or-map (λ r. r.1) rows k (identity_word n, identity_word n) (identity_word (row_count (rows_of rows))) (subst (λ m. k < m) (sym count) h)

  pub destabilizer_seen : (k : ℕ) → k < n → destabilizer_at (rows_of rows) k ≡ (pair_at n rows k).0
  destabilizer_seen k h = get_or-map (λ r. r.0) rows k (identity_word n, identity_word n) (identity_word (row_count (rows_of rows))) (subst (λ m. k < m) (sym count) h)

-- two states that agree on the words of n letters
module _ (n : ℕ) (s t : State) (same : (p : Signed) → length p.letters ≡ n → s p ≡ t p) (w : List Letter) (size : length w ≡ n) where
  pub same_decided : is_decided s w ≡ is_decided t w
  same_decided = ap₂ (λ a b. a || b) (same (signed w false) size) (same (signed w true) size)

  pub same_outcome : (coin : Bool) → outcome s w coin ≡ outcome t w coin
  same_outcome coin =
      ap₂ (λ a b. if a then false else (if b then true else coin)) (same (signed w false) size) (same (signed w true) size)

  pub same_collapsed : (coin : Bool) (p : Signed) → length p.letters ≡ n → collapsed w coin s p ≡ collapsed w coin t p
  same_collapsed coin p h =
      ap (λ d. if d then s p else not (anticommute p.letters w) && (s p || s (product (signed w coin) p))) same_decided
      ∙ ap₂ (λ a b. if is_decided t w then a else not (anticommute p.letters w) && (a || b))
      (same p h) (same (product (signed w coin) p) (product_size n (signed w coin) p size h))

-- the rows seen of rows kept
module _ (rows : List Pair) (is : IsTableau (length rows) rows) where
  abbrev n : ℕ
  n = length rows

  abbrev pairs : List Pair
  pairs = decoded_pairs n rows

  pub seen_size : row_count (rows_seen rows) ≡ n
  seen_size = count_seen n pairs (seen_count n rows is)

  pub decoded_seen : (p : Signed) → length p.letters ≡ n → decoded n pairs p ≡ encoded n rows p
  decoded_seen p h =
      let encodes = seen_encodes n rows is in
      let q = decoded n pairs p in
      let q_size = decoded_size n pairs encodes.tableau p h in
      sym (is.clifford.right q q_size) ∙ ap (encoded n rows) (sym (encodes.map q q_size) ∙ encode_decode n pairs encodes.tableau p h)

  pub seen_state : (p : Signed) → length p.letters ≡ n → state_of (rows_seen rows) p ≡ code_state n rows p
  seen_state p h = state_seen n pairs (seen_count n rows is) p ∙ ap start_state (decoded_seen p h)

  pub seen_stabilizer : (k : ℕ) → k < n → stabilizer_at (rows_seen rows) k ≡ decoded n rows (lone n k Z)
  seen_stabilizer k h = stabilizer_seen n pairs (seen_count n rows is) k h ∙ ap (λ r. r.1) (seen_at n rows is k h)

  pub seen_destabilizer : (k : ℕ) → k < n → destabilizer_at (rows_seen rows) k ≡ decoded n rows (lone n k X)
  seen_destabilizer k h = destabilizer_seen n pairs (seen_count n rows is) k h ∙ ap (λ r. r.0) (seen_at n rows is k h)
