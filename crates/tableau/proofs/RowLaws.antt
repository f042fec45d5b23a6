-- The laws of the rows seen: which of them commute, that the state holds their products alone, and that they span.
use Rattle.std.proofs.Common.{◌≡◌, ◌≢◌, ◌<◌, ◌&&◌, ◌||◌, inl, inr, if◌then◌else◌, ℕ, suc, Bool, true, false, not, List, [], ◌∷◌, length, map, get_or, refl, ap, ap₂, sym, subst, ◌∙◌, arith, get_or-set_other}
use Rattle.std.proofs.lemmas.Bool.{cases_eq, and_from, and_parts}
use Rattle.std.proofs.lemmas.List.{length-replicate, length-map}
use Rattle.std.specs.List.{list_all}
use Rattle.gate_table.proofs.WordImageLaws.{letter_at-none}
use Rattle.pauli_word.specs.Bits.{letter_of}
use Rattle.pauli_word.specs.declared.letter.Letter.{Letter}
use Rattle.pauli_word.specs.declared.letter.Letter.TheVariants.{I, X, Z}
use Rattle.pauli_word.specs.Letters.{letters_clash}
use Rattle.pauli_word.specs.Parity.{exclusive_or}
use Rattle.pauli_word.specs.States.{State, is_I_or_Z, start_state}
use Rattle.pauli_word.specs.Groups.{IsMember, IsGroup, identity_word}
use Rattle.pauli_word.specs.Words.{Signed, signed, with_sign_changed, anticommute, product, letters_product, no_letters, lone_letter}
use Rattle.pauli_word.proofs.LetterLaws.{letters_clash_comm, letters_clash_of_I}
use Rattle.pauli_word.proofs.LoneLetters.{length-lone_letter, anticommute-lone_letter, letters_product_of_no_letters}
use Rattle.pauli_word.proofs.WordLaws.{letters_product_assoc, letters_product_comm}
use Rattle.tableau.specs.private.Decoding.{decoded_letters, decoded, decoded_pairs, rows_seen}
use Rattle.tableau.specs.private.Encoding.{Pair, word_of, letters_encoded, IsTableau, HasLength}
use Rattle.tableau.specs.private.EncodingSteps.{lone}
use Rattle.tableau.specs.Rows.{Rows, row_count, stabilizer_at, destabilizer_at, clashes_with, commutes_with_all, chosen_product, stabilizer_product, destabilizer_product, state_of}
use Rattle.tableau.proofs.DecodingLaws.{decoded_size, encode_decode, decoded_clash, seen_count, seen_encodes}
use Rattle.tableau.proofs.DiagonalWords.{Z_in_start, at_one}
use Rattle.tableau.proofs.EncodingGates.{code_state, state_is_group}
use Rattle.tableau.proofs.KeptRows.{kept_size, agree}
use Rattle.tableau.proofs.PairWords.{pair_long}
use Rattle.tableau.proofs.SeenRows.{seen_stabilizer, seen_destabilizer, count_seen, product_seen, state_seen}
use Rattle.tableau.proofs.Turns.{product_size}

group_as : (n : ℕ) (s t : State) → ((p : Signed) → length p.letters ≡ n → s p ≡ t p) → IsGroup n t → IsGroup n s
group_as n s t same group =
    let there : (p : Signed) → IsMember n s p → IsMember n t p = λ p h. record { size = h.size; member = sym (same p h.size) ∙ h.member } in
    record {
      identity = same (identity_word n) (length-replicate n I) ∙ group.identity;
      no_minus = same (signed (no_letters n) true) (length-replicate n I) ∙ group.no_minus;
      commuting = λ p q h k. group.commuting p q (there p h) (there q k);
      closed = λ p q h k. same (product p q) (product_size n p q h.size k.size) ∙ group.closed p q (there p h) (there q k);
    }

-- products of members
product_in : (n : ℕ) (s : State) → IsGroup n s → (words : List Signed) → ((k : ℕ) → k < length words → IsMember n s (get_or words k (identity_word n))) → (choice : List Bool) → IsMember n s (chosen_product n words choice)
product_in n s group [] all choice = record { size = length-replicate n I; member = group.identity }
product_in n s group (v ∷ words) all [] = record { size = length-replicate n I; member = group.identity }
product_in n s group (v ∷ words) all (c ∷ choice) =
    let rest = product_in n s group words (λ k h. all (suc k) (omega arith)) choice in
    let first : IsMember n s (if c then v else identity_word n) = chosen c in
    record { size = product_size n (if c then v else identity_word n) (chosen_product n words choice) first.size rest.size; member = group.closed (if c then v else identity_word n) (chosen_product n words choice) first rest }
  where
    chosen : (c : Bool) → IsMember n s (if c then v else identity_word n)
    chosen true = all 0 (omega arith)
    chosen false = record { size = length-replicate n I; member = group.identity }

all_commute : (p : List Letter) (words : List Signed) (d : Signed) → ((k : ℕ) → k < length words → anticommute p (get_or words k d).letters ≡ false) → commutes_with_all p words ≡ true
all_commute p [] d h = refl
all_commute p (v ∷ words) d h =
    and_from (not (anticommute p v.letters)) (commutes_with_all p words) (ap not (h 0 (omega arith))) (all_commute p words d (λ k l. h (suc k) (omega arith)))

-- a word's letters from those of its chosen rows
spanned : (n : ℕ) (rows : List Pair) (p : List Letter) → ((k : ℕ) (d : Pair) → k < length rows → HasLength n (get_or rows k d)) → (letters_encoded n rows (decoded_letters rows p)).letters ≡ letters_product (chosen_product n (map (λ r. r.0) rows) (clashes_with p (map (λ r. r.1) rows))).letters (chosen_product n (map (λ r. r.1) rows) (clashes_with p (map (λ r. r.0) rows))).letters
spanned n [] p long = sym (letters_product_of_no_letters n (no_letters n) (length-replicate n I))
spanned n (r ∷ rows) p long =
    ap₂ letters_product
    (one n r (long 0 r (omega arith)) (anticommute p r.1.letters) (anticommute p r.0.letters))
    (spanned n rows p (λ k d h. long (suc k) d (omega arith)))
    ∙ middle _ _ _ _
  where
    one : (n : ℕ) (r : Pair) → HasLength n r → (a b : Bool) → (word_of n r (letter_of a b)).letters ≡ letters_product (if a then r.0 else identity_word n).letters (if b then r.1 else identity_word n).letters
    one n r h false false = sym (letters_product_of_no_letters n (no_letters n) (length-replicate n I))
    one n r h true false = sym (letters_product_comm r.0.letters (no_letters n) ∙ letters_product_of_no_letters n r.0.letters h.x)
    one n r h true true = refl
    one n r h false true = sym (letters_product_of_no_letters n r.1.letters h.z)

    middle : (a b c d : List Letter) → letters_product (letters_product a b) (letters_product c d) ≡ letters_product (letters_product a c) (letters_product b d)
    middle a b c d =
        letters_product_assoc a b (letters_product c d)
        ∙ (ap (letters_product a)
        (sym (letters_product_assoc b c d)
        ∙ (ap (λ t. letters_product t d) (letters_product_comm b c) ∙ letters_product_assoc c b d))
        ∙ sym (letters_product_assoc a c (letters_product b d)))

module _ (rows : List Pair) (old : Rows) (is : IsTableau (length rows) rows) (same : rows_seen rows ≡ old) where
  abbrev n : ℕ
  n = length rows

  abbrev m : ℕ
  m = row_count old

  within : (i : ℕ) → i < m → i < n
  within i h = subst (λ k. i < k) (sym (kept_size rows old is same)) h

  stab : (i : ℕ) → i < m → stabilizer_at old i ≡ decoded n rows (lone n i Z)
  stab i h = ap (λ o. stabilizer_at o i) (sym same) ∙ seen_stabilizer rows is i (within i h)

  destab : (i : ℕ) → i < m → destabilizer_at old i ≡ decoded n rows (lone n i X)
  destab i h = ap (λ o. destabilizer_at o i) (sym same) ∙ seen_destabilizer rows is i (within i h)

  size_of : (i : ℕ) (a : Letter) → length (decoded n rows (lone n i a)).letters ≡ m
  size_of i a = decoded_size n rows is (lone n i a) (length-lone_letter n i a) ∙ kept_size rows old is same

  pub destabilizer_count : length old.destabilizers ≡ m
  destabilizer_count = ap (λ o. length o.destabilizers) (sym same) ∙ (length-map (decoded_pairs n rows) _ ∙ (seen_count n rows is ∙ kept_size rows old is same))

  pub stabilizer_sizes : (i : ℕ) → i < m → length (stabilizer_at old i).letters ≡ m
  stabilizer_sizes i h = ap (λ w. length w.letters) (stab i h) ∙ size_of i Z

  pub destabilizer_sizes : (i : ℕ) → i < m → length (destabilizer_at old i).letters ≡ m
  destabilizer_sizes i h = ap (λ w. length w.letters) (destab i h) ∙ size_of i X

  -- letters at two qubits
  apart : (i j : ℕ) (a b : Letter) → i < n → i ≢ j → anticommute (lone_letter n i a) (lone_letter n j b) ≡ false
  apart i j a b h ne =
      anticommute-lone_letter n (lone_letter n j b) i a (length-lone_letter n j b) h
      ∙ (ap (letters_clash a) (get_or-set_other (no_letters n) j i b I ne ∙ letter_at-none n i)
      ∙ (letters_clash_comm a I ∙ letters_clash_of_I a))

  one_kind : (i j : ℕ) (a : Letter) → letters_clash a a ≡ false → i < n → anticommute (lone_letter n i a) (lone_letter n j a) ≡ false
  one_kind i j a e h = elim (cases_eq i j) [
    | inl k ↦ ap (λ t. anticommute (lone_letter n i a) (lone_letter n t a)) (sym k) ∙ (at_one n i a a h ∙ e)
    | inr ne ↦ apart i j a a h ne
  ]

  meet : (p q : Signed) (i j : ℕ) (a b : Letter) → p ≡ decoded n rows (lone n i a) → q ≡ decoded n rows (lone n j b) → anticommute p.letters q.letters ≡ anticommute (lone_letter n i a) (lone_letter n j b)
  meet p q i j a b e f =
      ap₂ (λ s t. anticommute s.letters t.letters) e f
      ∙ decoded_clash n rows is (lone n i a) (lone n j b) (length-lone_letter n i a) (length-lone_letter n j b)

  pub stabilizers_commute : (i j : ℕ) → i < m → j < m → anticommute (stabilizer_at old i).letters (stabilizer_at old j).letters ≡ false
  stabilizers_commute i j h k = meet _ _ i j Z Z (stab i h) (stab j k) ∙ one_kind i j Z refl (within i h)

  pub destabilizers_commute : (i j : ℕ) → i < m → j < m → anticommute (destabilizer_at old i).letters (destabilizer_at old j).letters ≡ false
  destabilizers_commute i j h k = meet _ _ i j X X (destab i h) (destab j k) ∙ one_kind i j X refl (within i h)

  pub pairs_anticommute : (i : ℕ) → i < m → anticommute (stabilizer_at old i).letters (destabilizer_at old i).letters ≡ true
  pairs_anticommute i h = meet _ _ i i Z X (stab i h) (destab i h) ∙ at_one n i Z X (within i h)

  pub others_commute : (i j : ℕ) → i < m → j < m → i ≢ j → anticommute (stabilizer_at old i).letters (destabilizer_at old j).letters ≡ false
  others_commute i j h k ne = meet _ _ i j Z X (stab i h) (destab j k) ∙ apart i j Z X (within i h) ne

  pub state_group : IsGroup m (state_of old)
  state_group =
      subst (λ k. IsGroup k (state_of old)) (kept_size rows old is same)
      (group_as n (state_of old) (code_state n rows) (agree rows old is same) (state_is_group n rows is))

  stabilizer_member : (i : ℕ) → i < m → IsMember m (state_of old) (stabilizer_at old i)
  stabilizer_member i h =
      record {
        size = stabilizer_sizes i h;
        member =
            ap (state_of old) (stab i h)
            ∙ (agree rows old is same (decoded n rows (lone n i Z)) (decoded_size n rows is (lone n i Z) (length-lone_letter n i Z))
            ∙ (ap start_state (encode_decode n rows is (lone n i Z) (length-lone_letter n i Z)) ∙ (Z_in_start n i).member));
      }

  pub products_in : (choice : List Bool) → state_of old (chosen_product m old.stabilizers choice) ≡ true
  products_in choice = (product_in m (state_of old) state_group old.stabilizers (λ k h. stabilizer_member k h) choice).member

  pub complete : (p : Signed) → length p.letters ≡ m → ((i : ℕ) → i < m → anticommute p.letters (stabilizer_at old i).letters ≡ false) → (state_of old p || state_of old (with_sign_changed true p)) ≡ true
  complete p size commutes =
      let all = all_commute p.letters old.stabilizers (identity_word m) commutes in
      let sign = (stabilizer_product old p.letters).negative in
      ap (λ c. (c && not (exclusive_or p.negative sign)) || (c && not (exclusive_or (exclusive_or true p.negative) sign))) all
      ∙ either p.negative sign
    where
      either : (a b : Bool) → ((true && not (exclusive_or a b)) || (true && not (exclusive_or (exclusive_or true a) b))) ≡ true
      either false false = refl
      either false true = refl
      either true false = refl
      either true true = refl

  -- by the pairs seen
  abbrev pairs : List Pair
  pairs = decoded_pairs n rows

  pairs_are : IsTableau n pairs
  pairs_are = (seen_encodes n rows is).tableau

  count_here : row_count (rows_seen rows) ≡ n
  count_here = count_seen n pairs (seen_count n rows is)

  pub member_is_product : (p : Signed) → length p.letters ≡ m → state_of old p ≡ true → p ≡ stabilizer_product old p.letters
  member_is_product p size p_in =
      let h = size ∙ sym (kept_size rows old is same) in
      let code = decoded n pairs p in
      let here : start_state code ≡ true = sym (ap (λ o. state_of o p) (sym same) ∙ state_seen n pairs (seen_count n rows is) p) ∙ p_in in
      let parts = and_parts (list_all is_I_or_Z code.letters) (not code.negative) here in
      sym (encode_decode n pairs pairs_are p h)
      ∙ (ap (λ b. with_sign_changed b (letters_encoded n pairs code.letters)) (not_true code.negative parts.1)
      ∙ (product_seen n pairs p.letters parts.0
      ∙ (ap (λ k. chosen_product k (map (λ r. r.1) pairs) (clashes_with p.letters (map (λ r. r.0) pairs))) (sym count_here)
      ∙ ap (λ o. stabilizer_product o p.letters) same)))
    where
      not_true : (b : Bool) → not b ≡ true → b ≡ false
      not_true false h = refl
      not_true true h = cc

  pub span : (p : List Letter) → length p ≡ m → letters_product (destabilizer_product old p).letters (stabilizer_product old p).letters ≡ p
  span p size =
      let h = size ∙ sym (kept_size rows old is same) in
      ap (λ o. letters_product (destabilizer_product o p).letters (stabilizer_product o p).letters) (sym same)
      ∙ (ap (λ k. letters_product (chosen_product k (map (λ r. r.0) pairs) (clashes_with p (map (λ r. r.1) pairs))).letters (chosen_product k (map (λ r. r.1) pairs) (clashes_with p (map (λ r. r.0) pairs))).letters) count_here
      ∙ (sym (spanned n pairs p (λ k d l. long_here k d l))
      ∙ ap (λ w. w.letters) (encode_decode n pairs pairs_are (signed p false) h)))
    where
      long_here : (k : ℕ) (d : Pair) → k < length pairs → HasLength n (get_or pairs k d)
      long_here k d l =
          let count = seen_count n rows is in
          subst (λ t. HasLength t (get_or pairs k d)) count
          (pair_long pairs (subst (λ t. IsTableau t pairs) (sym count) pairs_are) k d l)
