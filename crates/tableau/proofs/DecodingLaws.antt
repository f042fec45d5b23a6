-- Decoding undoes encoding. The rows seen are those of the decoding map, so they are rows of a Clifford map too, by which
-- words decode as they encode by the rows kept; and the state of the rows seen holds the words whose code is in the state
-- at the start.
use Rattle.std.proofs.Common.{◌≡◌, ◌<◌, ℕ, zero, suc, false, List, [], ◌∷◌, length, refl, ap, ap₂, sym, subst, ◌∙◌, arith}
use Rattle.std.proofs.lemmas.List.{ext_get_or, length-map}
use Rattle.std.proofs.lemmas.List.FromFn.{get_or-map-range_with_len, length-range_with_len}
use Rattle.std.proofs.Math.Nat.{suc_inj}
use Rattle.std.specs.List.{range_with_len}
use Rattle.pauli_word.specs.Bits.{letter_of}
use Rattle.pauli_word.specs.declared.letter.Letter.{Letter}
use Rattle.pauli_word.specs.declared.letter.Letter.TheVariants.{I, X, Y, Z}
use Rattle.pauli_word.specs.Letters.{letters_clash}
use Rattle.pauli_word.specs.Parity.{exclusive_or}
use Rattle.pauli_word.specs.Words.{Signed, anticommute, lone_letter, letter_at, signed, with_sign_changed}
use Rattle.pauli_word.specs.Groups.{identity_word}
use Rattle.pauli_word.proofs.Parities.{exclusive_or-false, exclusive_or_self, exclusive_or_left_comm}
use Rattle.pauli_word.proofs.LetterLaws.{letters_clash_comm}
use Rattle.pauli_word.proofs.WordLaws.{anticommute_comm}
use Rattle.pauli_word.proofs.LoneLetters.{length-lone_letter, anticommute-lone_letter}
use Rattle.tableau.specs.private.Encoding.{Pair, word_of, encoded, pair_at, IsTableau}
use Rattle.tableau.specs.private.EncodingSteps.{lone}
use Rattle.tableau.specs.private.Decoding.{decoded_letters, decoded, decoded_pair, decoded_pairs}
use Rattle.tableau.proofs.RowMaps.{products_kept, kept_sign, row_encoded}
use Rattle.tableau.proofs.EncodingGates.{Encodes, encodes}

letter_met : (a : Letter) → letter_of (letters_clash a Z) (letters_clash a X) ≡ a
letter_met I = refl
letter_met X = refl
letter_met Y = refl
letter_met Z = refl

pub length-decoded : (rows : List Pair) (p : List Letter) → length (decoded_letters rows p) ≡ length rows
length-decoded [] p = refl
length-decoded (r ∷ rows) p = ap suc (length-decoded rows p)

pub letter-decoded : (m n : ℕ) (rows : List Pair) (p : List Letter) (q : ℕ) → length rows ≡ m → q < m → letter_at (decoded_letters rows p) q ≡ letter_of (anticommute p (pair_at n rows q).1.letters) (anticommute p (pair_at n rows q).0.letters)
letter-decoded zero n rows p q h k = absurd (omega arith)
letter-decoded (suc m) n [] p q h k = cc
letter-decoded (suc m) n (r ∷ rows) p zero h k = refl
letter-decoded (suc m) n (r ∷ rows) p (suc q) h k = letter-decoded m n rows p q (suc_inj h) (omega arith)

module _ (n : ℕ) (rows : List Pair) (is : IsTableau n rows) where
  abbrev E : Signed → Signed
  E p = encoded n rows p

  abbrev back : Signed → Signed
  back = is.clifford.back

  -- a word meets a row as its preimage meets the row's letter
  back_meets : (p : Signed) (q : ℕ) (a : Letter) → length p.letters ≡ n → q < n → anticommute p.letters (word_of n (pair_at n rows q) a).letters ≡ letters_clash (letter_at (back p).letters q) a
  back_meets p q a h k =
      let size = is.clifford.back_keeps.size p h in
      ap₂ (λ s t. anticommute s.letters t.letters) (sym (is.clifford.right p h)) (sym (row_encoded n rows is q a k))
      ∙ (is.clifford.keeps.anticommuting (back p) (lone n q a) size (length-lone_letter n q a)
      ∙ (anticommute_comm (back p).letters (lone_letter n q a)
      ∙ (anticommute-lone_letter n (back p).letters q a size k
      ∙ letters_clash_comm a (letter_at (back p).letters q))))

  letters_back : (p : Signed) → length p.letters ≡ n → decoded_letters rows p.letters ≡ (back p).letters
  letters_back p h =
      let decoded_size : length (decoded_letters rows p.letters) ≡ n = length-decoded rows p.letters ∙ is.count in
      ext_get_or I (decoded_letters rows p.letters) (back p).letters
      (decoded_size ∙ sym (is.clifford.back_keeps.size p h))
      (λ q l.
      let k : q < n = subst (λ m. q < m) decoded_size l in
      letter-decoded n n rows p.letters q is.count k
      ∙ (ap₂ letter_of (back_meets p q Z h k) (back_meets p q X h k) ∙ letter_met (letter_at (back p).letters q)))

  pub decoded_back : (p : Signed) → length p.letters ≡ n → decoded n rows p ≡ back p
  decoded_back p h =
      let b = back p in
      let size = is.clifford.back_keeps.size p h in
      let unsigned : encoded n rows (signed (decoded_letters rows p.letters) false) ≡ with_sign_changed b.negative p =
      ap (λ t. encoded n rows (signed t false)) (letters_back p h)
      ∙ (ap (λ t. encoded n rows (signed b.letters t)) (sym (exclusive_or_self b.negative))
      ∙ (kept_sign n n (encoded n rows) (products_kept n (encoded n rows) is.clifford.keeps) b.negative b size
      ∙ ap (with_sign_changed b.negative) (is.clifford.right p h))) in
      ap₂ signed (letters_back p h)
      (ap (λ t. exclusive_or p.negative t.negative) unsigned
      ∙ (exclusive_or_left_comm p.negative b.negative p.negative
      ∙ (ap (exclusive_or b.negative) (exclusive_or_self p.negative) ∙ exclusive_or-false b.negative)))

  pub decoded_size : (p : Signed) → length p.letters ≡ n → length (decoded n rows p).letters ≡ n
  decoded_size p h = ap (λ t. length t.letters) (decoded_back p h) ∙ is.clifford.back_keeps.size p h

  pub encode_decode : (p : Signed) → length p.letters ≡ n → encoded n rows (decoded n rows p) ≡ p
  encode_decode p h = ap (encoded n rows) (decoded_back p h) ∙ is.clifford.right p h

  pub decode_encode : (p : Signed) → length p.letters ≡ n → decoded n rows (encoded n rows p) ≡ p
  decode_encode p h = decoded_back (encoded n rows p) (is.clifford.keeps.size p h) ∙ is.clifford.left p h

  pub decoded_clash : (p q : Signed) → length p.letters ≡ n → length q.letters ≡ n → anticommute (decoded n rows p).letters (decoded n rows q).letters ≡ anticommute p.letters q.letters
  decoded_clash p q h k =
      ap₂ (λ s t. anticommute s.letters t.letters) (decoded_back p h) (decoded_back q k) ∙ is.clifford.back_keeps.anticommuting p q h k

  abbrev seen : List Pair
  seen = decoded_pairs n rows

  pub seen_at : (i : ℕ) → i < n → pair_at n seen i ≡ decoded_pair n rows i
  seen_at i k = get_or-map-range_with_len (decoded_pair n rows) 0 n i i (identity_word n, identity_word n) k (omega arith)

  pub seen_count : length seen ≡ n
  seen_count = length-map (range_with_len 0 n) _ ∙ length-range_with_len 0 n

  pub seen_encodes : Encodes n seen back
  seen_encodes =
      encodes n back seen (record { keeps = is.clifford.back_keeps; back = E; back_keeps = is.clifford.keeps; left = is.clifford.right; right = is.clifford.left })
      (record {
        x = λ i k. ap (λ t. t.0) (seen_at i k) ∙ decoded_back (lone n i X) (length-lone_letter n i X);
        z = λ i k. ap (λ t. t.1) (seen_at i k) ∙ decoded_back (lone n i Z) (length-lone_letter n i Z);
      })
      seen_count
