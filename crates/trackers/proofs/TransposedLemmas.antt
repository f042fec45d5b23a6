-- Words kept by qubit: what one new column makes of all words.
use Rattle.std.proofs.Common.{◌≡◌, ℕ, zero, suc, ◌+◌, ◌<◌, ◌≤◌, Bool, true, false, ◌&&◌, ◌||◌, eqb, List, [], ◌∷◌, map, length, get_or, set, refl, ap, ap₂, subst, sym, ◌∙◌, inl, inr, arith, length-set, get_or-set_same, get_or-set_other}
use Rattle.std.specs.Prelude.{All, filter, replicate, cond}
use Rattle.std.specs.List.{range_with_len, AllPairs}
use Rattle.std.specs.List.Sorted.{IsStrictlyIncreasing}
use Rattle.std.proofs.lemmas.Bool.{and_parts, cases_eq, eq-eqb, ne_eqb}
use Rattle.std.proofs.Math.Nat.{suc_inj}
use Rattle.std.proofs.lemmas.List.Folds.{list_any_none}
use Rattle.std.proofs.lemmas.List.Kept.{AllPairs-from_increasing}
use Rattle.bit_rows.specs.Rows.{xor_rows}
use Rattle.pauli_word.specs.Parity.{exclusive_or}
use Rattle.pauli_word.proofs.Parities.{exclusive_or_assoc}
use Rattle.pauli_word.proofs.WordLaws.{anticommute_comm, anticommute_of_none, length-letters_product}
use Rattle.trackers.proofs.WordLemmas.{anticommute-term}
use Rattle.std.proofs.lemmas.List.{set-get_or, map-set, length-map, get_or-map, get_or-replicate, length-replicate}
use Rattle.std.proofs.lemmas.List.FromFn.{length-map-range_with_len, get_or-map-range_with_len}
use Rattle.gate_table.specs.declared.gate.Gate.{Gate}
use Rattle.gate_table.specs.declared.gate.Gate.TheVariants as gate
use Rattle.gate_table.specs.Images.{image1, image2, inverse_of}
use Rattle.pauli_word.specs.declared.letter.Letter.{Letter}
use Rattle.pauli_word.specs.declared.letter.Letter.TheVariants.{I, X, Z}
use Rattle.pauli_word.specs.Bits.{letters_of}
use Rattle.pauli_word.proofs.BitWords.{letters_of-zeros}
use Rattle.pauli_word.specs.Letters.{letter_product, letters_clash}
use Rattle.pauli_word.specs.Words.{letters_product, no_letters, lone_letter, letter_at, anticommute}
use Rattle.pauli_word.proofs.LetterTests.{each_letter, at_letter, each_two_letters, at_two_letters, same_letter, same_letter-true}
use Rattle.pauli_word.proofs.WordPlaces.{letter_at-product}
use Rattle.step_model.specs.declared.step.Term.{Term}
use Rattle.step_model.specs.Listing.{word_of_terms}
use Rattle.step_model.specs.Sensitivities.{multiplied}
use Rattle.pauli_word.proofs.LoneLetters.{letters_product-lone_letter, letters_product_of_no_letters}
use Rattle.trackers.specs.Tracked.{Tracked, fresh, each_word, with_I_at, undone_one, undone_two, is_among, added, anticommuting}
use Rattle.trackers.specs.private.Transposed.{word_at, transposed, tracked_of, combined, times_each}
use Rattle.step_model.proofs.MemberLemmas.{filter_range_agree, map-map, map_range_below}

abbrev pub tracked_words : ℕ → List (List Letter) → Tracked
tracked_words n words = record { qubits = n; words = words }

-- the letter of a word at a qubit is that of the qubit's column at the target
pub read_at : (columns : List (List Letter)) (t q : ℕ) → q < length columns → letter_at (word_at columns t) q ≡ letter_at (get_or columns q []) t
read_at columns t q h = get_or-map (λ column. letter_at column t) columns q [] I h

pub word_at-set : (columns : List (List Letter)) (t q : ℕ) (column : List Letter) → word_at (set columns q column) t ≡ set (word_at columns t) q (letter_at column t)
word_at-set columns t q column = map-set (λ c. letter_at c t) columns q column

-- what is done to each word
pub tracked_each : (m : ℕ) (columns after : List (List Letter)) (F : List Letter → List Letter) → length after ≡ length columns → ((t : ℕ) → t < m → word_at after t ≡ F (word_at columns t)) → tracked_of m after ≡ each_word F (tracked_of m columns)
tracked_each m columns after F long same =
    ap (λ n. tracked_words n (transposed m after)) long
    ∙ ap (tracked_words (length columns))
    (map_range_below (word_at after) (λ t. F (word_at columns t)) 0 m (λ t h. same t (omega (arith, h))) ∙ sym (map-map F (word_at columns) (range_with_len 0 m)))

-- a column replaced by one whose letters are images under f
pub tracked_set : (m : ℕ) (columns : List (List Letter)) (q : ℕ) (column : List Letter) (f : Letter → Letter) → q < length columns → ((t : ℕ) → t < m → letter_at column t ≡ f (letter_at (get_or columns q []) t)) → tracked_of m (set columns q column) ≡ each_word (λ w. set w q (f (letter_at w q))) (tracked_of m columns)
tracked_set m columns q column f h same =
    tracked_each m columns (set columns q column) (λ w. set w q (f (letter_at w q))) (length-set columns q column)
    (λ t lt. word_at-set columns t q column ∙ ap (set (word_at columns t) q) (same t lt ∙ ap f (sym (read_at columns t q h))))

-- ---- clear
pub tracked_clear : (m : ℕ) (columns : List (List Letter)) (q k : ℕ) → q < length columns → m ≤ k → tracked_of m (set columns q (no_letters k)) ≡ each_word (with_I_at q) (tracked_of m columns)
tracked_clear m columns q k h le =
    tracked_set m columns q (no_letters k) (λ a. I) h (λ t lt. get_or-replicate k t I I (omega arith))

-- ---- one-qubit gates
one_test : Gate → Letter → Bool
one_test g a = same_letter (image1 g a).0 (combined (image1 g X).0 (image1 g Z).0 a)

one_tests : (g : Gate) → each_letter (one_test g) ≡ true
unfolding one_test
one_tests gate.I = refl
one_tests g = refl

pub image1_combined : (g : Gate) (a : Letter) → (image1 g a).0 ≡ combined (image1 g X).0 (image1 g Z).0 a
unfolding one_test
image1_combined g a = same_letter-true _ _ (at_letter (one_test g) (one_tests g) a)

-- a column whose letters are the images of those of another
pub image_column : (x z : Letter) (spare column made : List Letter) (n : ℕ) → length column ≡ n → spare ≡ no_letters n → made ≡ letters_product spare (map (combined x z) column) → made ≡ map (combined x z) column
image_column x z spare column made n long e h =
    h ∙ (ap (λ s. letters_product s (map (combined x z) column)) e ∙ letters_product_of_no_letters n (map (combined x z) column) (length-map column (combined x z) ∙ long))

pub tracked_one : (m : ℕ) (columns : List (List Letter)) (q : ℕ) (g : Gate) → q < length columns → length (get_or columns q []) ≡ m → tracked_of m (set columns q (map (combined (image1 (inverse_of g) X).0 (image1 (inverse_of g) Z).0) (get_or columns q []))) ≡ each_word (undone_one g q) (tracked_of m columns)
tracked_one m columns q g h long =
    tracked_set m columns q (map (combined (image1 (inverse_of g) X).0 (image1 (inverse_of g) Z).0) (get_or columns q [])) (λ a. (image1 (inverse_of g) a).0) h
    (λ t lt. get_or-map (combined (image1 (inverse_of g) X).0 (image1 (inverse_of g) Z).0) (get_or columns q []) t I I (omega (arith, lt, long)) ∙ sym (image1_combined (inverse_of g) (letter_at (get_or columns q []) t)))

-- ---- hit
pub clash_rows : (letter : Letter) (column : List Letter) (t : ℕ) → t < length column → get_or (map (letters_clash letter) column) t false ≡ letters_clash letter (letter_at column t)
clash_rows letter column t h = get_or-map (letters_clash letter) column t I false h

pub get_or-xor_rows : (p q : List Bool) (t : ℕ) → length p ≡ length q → get_or (xor_rows p q) t false ≡ exclusive_or (get_or p t false) (get_or q t false)
get_or-xor_rows [] [] t h = refl
get_or-xor_rows [] (b ∷ q) t h = cc
get_or-xor_rows (a ∷ p) [] t h = cc
get_or-xor_rows (a ∷ p) (b ∷ q) zero h = refl
get_or-xor_rows (a ∷ p) (b ∷ q) (suc t) h = get_or-xor_rows p q t (suc_inj h)

pub length-xor_rows : (p q : List Bool) → length p ≡ length q → length (xor_rows p q) ≡ length p
length-xor_rows [] q h = refl
length-xor_rows (a ∷ p) [] h = cc
length-xor_rows (a ∷ p) (b ∷ q) h = ap suc (length-xor_rows p q (suc_inj h))

-- one term more, at one target
pub clash_more : (columns : List (List Letter)) (t : ℕ) (odd : Bool) (term : Term) (terms : List Term) (column : List Letter) (whole : Bool)
    → term.qubit < length columns → column ≡ get_or columns term.qubit []
    → exclusive_or odd (anticommute (word_at columns t) (word_of_terms (length columns) (term ∷ terms))) ≡ whole
    → exclusive_or (exclusive_or odd (letters_clash term.letter (letter_at column t))) (anticommute (word_at columns t) (word_of_terms (length columns) terms)) ≡ whole
clash_more columns t odd term terms column whole h is before =
    exclusive_or_assoc odd (letters_clash term.letter (letter_at column t)) (anticommute w (word_of_terms (length columns) terms))
    ∙ (ap (exclusive_or odd)
    (ap₂ (λ a n. exclusive_or (letters_clash term.letter a) (anticommute w (word_of_terms n terms))) (ap (λ c. letter_at c t) is ∙ sym (read_at columns t term.qubit h)) (sym long)
    ∙ (sym (anticommute-term w term terms (omega (arith, h, long))) ∙ ap (λ n. anticommute w (word_of_terms n (term ∷ terms))) long))
    ∙ before)
  where
    w : List Letter
    w = word_at columns t

    long : length w ≡ length columns
    long = length-map columns (λ column. letter_at column t)

pub clash_none : (columns : List (List Letter)) (t : ℕ) → anticommute (word_at columns t) (word_of_terms (length columns) []) ≡ false
clash_none columns t = anticommute_comm (word_at columns t) (no_letters (length columns)) ∙ anticommute_of_none (length columns) (word_at columns t)

-- the places of the row of clashes are the targets that are hit
pub ones_are_hit : (m : ℕ) (columns : List (List Letter)) (terms : List Term) (row : List Bool) → row ≡ map (λ t. anticommute (word_at columns t) (word_of_terms (length columns) terms)) (range_with_len 0 m) → filter (λ t. get_or row t false) (range_with_len 0 (length row)) ≡ anticommuting terms (tracked_of m columns)
ones_are_hit m columns terms row h =
    ap (λ n. filter (λ t. get_or row t false) (range_with_len 0 n)) (ap length h ∙ (length-map-range_with_len test 0 m ∙ sym count))
    ∙ filter_range_agree (λ t. get_or row t false) (λ k. anticommute (get_or (transposed m columns) k []) (word_of_terms (length columns) terms)) 0 (length (transposed m columns))
    (λ t lt. let within : t < m = omega (arith, lt, count) in
    ap (λ r. get_or r t false) h
    ∙ (get_or-map-range_with_len test 0 m t t false within (omega arith)
    ∙ sym (ap (λ w. anticommute w (word_of_terms (length columns) terms)) (get_or-map-range_with_len (word_at columns) 0 m t t [] within (omega arith)))))
  where
    test : ℕ → Bool
    test t = anticommute (word_at columns t) (word_of_terms (length columns) terms)

    count : length (transposed m columns) ≡ m
    count = length-map-range_with_len (word_at columns) 0 m

not_among : (ts : List ℕ) (k : ℕ) → All (λ u. k < u) ts → is_among ts k ≡ false
not_among ts k h = list_any_none (λ u. eqb k u) ts (λ i d lt. ne_eqb k (get_or ts i d) (λ e. let above : k < get_or ts i d = h i d lt in omega (arith, e, above)))

times_each_at : (letter : Letter) (ts : List ℕ) (column : List Letter) (k : ℕ) → AllPairs (λ x y. x < y) ts → All (λ t. t < length column) ts → letter_at (times_each letter ts column) k ≡ cond (is_among ts k) (letter_product letter (letter_at column k)) (letter_at column k)
times_each_at letter [] column k up fits = refl
times_each_at letter (t ∷ ts) column k up fits =
    times_each_at letter ts next k (λ i j d lt within. up (suc i) (suc j) d (omega (arith, lt)) (omega (arith, within)))
    (λ i d within. let low : get_or ts i d < length column = fits (suc i) d (omega (arith, within)) in omega (arith, low, length-set column t product))
    ∙ elim (cases_eq k t) as (λ _. cond (is_among ts k) (letter_product letter (letter_at next k)) (letter_at next k) ≡ cond (is_among (t ∷ ts) k) (letter_product letter (letter_at column k)) (letter_at column k)) [
      | inl e ↦
          ap (λ b. cond b (letter_product letter (letter_at next k)) (letter_at next k))
          (ap (is_among ts) e ∙ not_among ts t (λ i d within. up 0 (suc i) d (omega arith) (omega (arith, within))))
          ∙ (ap (letter_at next) e ∙ (get_or-set_same column t product I (fits 0 t (omega arith)) ∙ (ap (λ j. letter_product letter (letter_at column j)) (sym e)
          ∙ ap (λ b. cond (b || is_among ts k) (letter_product letter (letter_at column k)) (letter_at column k)) (sym (eq-eqb k t e)))))
      | inr ne ↦
          ap (λ a. cond (is_among ts k) (letter_product letter a) a) (get_or-set_other column t k product I ne)
          ∙ ap (λ b. cond (b || is_among ts k) (letter_product letter (letter_at column k)) (letter_at column k)) (sym (ne_eqb k t ne))
    ]
  where
    product : Letter
    product = letter_product letter (letter_at column t)

    next : List Letter
    next = set column t product

word_multiplied : (n q : ℕ) (letter : Letter) (w : List Letter) (b : Bool) → length w ≡ n → q < n → set w q (cond b (letter_product letter (letter_at w q)) (letter_at w q)) ≡ multiplied b (lone_letter n q letter) w
word_multiplied n q letter w true h k = sym (letters_product-lone_letter n w q letter h k)
word_multiplied n q letter w false h k = set-get_or w q I

pub tracked_added : (m : ℕ) (columns : List (List Letter)) (q : ℕ) (ts : List ℕ) (letter : Letter) → q < length columns → IsStrictlyIncreasing ts → All (λ t. t < length (get_or columns q [])) ts → tracked_of m (set columns q (times_each letter ts (get_or columns q []))) ≡ added ts letter q (tracked_of m columns)
tracked_added m columns q ts letter h up fits =
    ap (λ n. tracked_words n (transposed m after)) (length-set columns q made)
    ∙ ap (tracked_words (length columns))
    (ap (λ n. map (word_at after) (range_with_len 0 n)) (sym count)
    ∙ map_range_below (word_at after) (λ k. multiplied (is_among ts k) (lone_letter (length columns) q letter) (get_or (transposed m columns) k [])) 0 (length (transposed m columns))
    (λ k lt. at_each k (omega (arith, lt, count))))
  where
    made : List Letter
    made = times_each letter ts (get_or columns q [])

    after : List (List Letter)
    after = set columns q made

    count : length (transposed m columns) ≡ m
    count = length-map-range_with_len (word_at columns) 0 m

    at_each : (k : ℕ) → k < m → word_at after k ≡ multiplied (is_among ts k) (lone_letter (length columns) q letter) (get_or (transposed m columns) k [])
    at_each k lt =
        word_at-set columns k q made
        ∙ (ap (set (word_at columns k) q)
        (times_each_at letter ts (get_or columns q []) k (AllPairs-from_increasing ts up) fits
        ∙ ap (λ a. cond (is_among ts k) (letter_product letter a) a) (sym (read_at columns k q h)))
        ∙ (word_multiplied (length columns) q letter (word_at columns k) (is_among ts k) (length-map columns (λ column. letter_at column k)) h
        ∙ ap (multiplied (is_among ts k) (lone_letter (length columns) q letter)) (sym (get_or-map-range_with_len (word_at columns) 0 m k k [] lt (omega arith)))))

-- ---- new
pub tracked_fresh : (n m : ℕ) → tracked_of m (replicate n (no_letters m)) ≡ fresh n m
tracked_fresh n m =
    ap (λ k. tracked_words k (transposed m (replicate n (no_letters m)))) (length-replicate n (no_letters m))
    ∙ ap (tracked_words n)
    (map_range_below (word_at (replicate n (no_letters m))) (λ t. no_letters n) 0 m
    (λ t lt. map-replicate (λ column. letter_at column t) (no_letters m) n ∙ ap (replicate n) (get_or-replicate m t I I (omega (arith, lt))))
    ∙ all_same 0 m)
  where
    map-replicate : {X Y : Type 0} (f : X → Y) (x : X) (n : ℕ) → map f (replicate n x) ≡ replicate n (f x)
    map-replicate f x zero = refl
    map-replicate f x (suc n) = ap (λ ys. f x ∷ ys) (map-replicate f x n)

    all_same : (k m : ℕ) → map (λ t. no_letters n) (range_with_len k m) ≡ replicate m (no_letters n)
    all_same k zero = refl
    all_same k (suc m) = ap (λ ws. no_letters n ∷ ws) (all_same (k + 1) m)

-- ---- two-qubit gates
two_test : Gate → Letter → Letter → Bool
two_test g a b =
    same_letter (image2 g a b).0 (letter_product (combined (image2 g X I).0 (image2 g Z I).0 a) (combined (image2 g I X).0 (image2 g I Z).0 b))
    && same_letter (image2 g a b).1 (letter_product (combined (image2 g X I).1 (image2 g Z I).1 a) (combined (image2 g I X).1 (image2 g I Z).1 b))

two_tests : (g : Gate) → each_two_letters (two_test g) ≡ true
unfolding two_test
two_tests gate.I = refl
two_tests g = refl

pub image2_combined : (g : Gate) (a b : Letter) → ((image2 g a b).0 ≡ letter_product (combined (image2 g X I).0 (image2 g Z I).0 a) (combined (image2 g I X).0 (image2 g I Z).0 b)) × ((image2 g a b).1 ≡ letter_product (combined (image2 g X I).1 (image2 g Z I).1 a) (combined (image2 g I X).1 (image2 g I Z).1 b))
unfolding two_test
image2_combined g a b =
    let passes = and_parts _ _ (at_two_letters (two_test g) (two_tests g) a b) in
    (same_letter-true _ _ passes.0, same_letter-true _ _ passes.1)

-- two columns replaced
pub tracked_set_two : (m : ℕ) (columns : List (List Letter)) (a b : ℕ) (first second : List Letter) (f s : Letter → Letter → Letter) → a < length columns → b < length columns
    → ((t : ℕ) → t < m → letter_at first t ≡ f (letter_at (get_or columns a []) t) (letter_at (get_or columns b []) t))
    → ((t : ℕ) → t < m → letter_at second t ≡ s (letter_at (get_or columns a []) t) (letter_at (get_or columns b []) t))
    → tracked_of m (set (set columns a first) b second) ≡ each_word (λ w. set (set w a (f (letter_at w a) (letter_at w b))) b (s (letter_at w a) (letter_at w b))) (tracked_of m columns)
tracked_set_two m columns a b first second f s ha hb is_first is_second =
    tracked_each m columns (set (set columns a first) b second) (λ w. set (set w a (f (letter_at w a) (letter_at w b))) b (s (letter_at w a) (letter_at w b)))
    (length-set (set columns a first) b second ∙ length-set columns a first)
    (λ t lt. word_at-set (set columns a first) t b second
    ∙ (ap (λ w. set w b (letter_at second t)) (word_at-set columns t a first)
    ∙ ap₂ (λ x y. set (set (word_at columns t) a x) b y)
    (is_first t lt ∙ ap₂ f (sym (read_at columns t a ha)) (sym (read_at columns t b hb)))
    (is_second t lt ∙ ap₂ s (sym (read_at columns t a ha)) (sym (read_at columns t b hb)))))

-- a column made of the images of those of two others
pub pair_at : (xa za xb zb : Letter) (ca cb : List Letter) (m t : ℕ) → length ca ≡ m → length cb ≡ m → t < m → letter_at (letters_product (map (combined xa za) ca) (map (combined xb zb) cb)) t ≡ letter_product (combined xa za (letter_at ca t)) (combined xb zb (letter_at cb t))
pair_at xa za xb zb ca cb m t h k lt =
    letter_at-product (map (combined xa za) ca) (map (combined xb zb) cb) t
    (length-map ca (combined xa za) ∙ (h ∙ sym (length-map cb (combined xb zb) ∙ k)))
    ∙ ap₂ letter_product (get_or-map (combined xa za) ca t I I (omega (arith, lt, h))) (get_or-map (combined xb zb) cb t I I (omega (arith, lt, k)))

pub tracked_two : (m : ℕ) (columns : List (List Letter)) (a b : ℕ) (g : Gate) (first second : List Letter) → a < length columns → b < length columns → length (get_or columns a []) ≡ m → length (get_or columns b []) ≡ m
    → first ≡ letters_product (map (combined (image2 (inverse_of g) X I).0 (image2 (inverse_of g) Z I).0) (get_or columns a [])) (map (combined (image2 (inverse_of g) I X).0 (image2 (inverse_of g) I Z).0) (get_or columns b []))
    → second ≡ letters_product (map (combined (image2 (inverse_of g) X I).1 (image2 (inverse_of g) Z I).1) (get_or columns a [])) (map (combined (image2 (inverse_of g) I X).1 (image2 (inverse_of g) I Z).1) (get_or columns b []))
    → tracked_of m (set (set columns a first) b second) ≡ each_word (undone_two g a b) (tracked_of m columns)
tracked_two m columns a b g first second ha hb la lb is_first is_second =
    tracked_set_two m columns a b first second (λ x y. (image2 (inverse_of g) x y).0) (λ x y. (image2 (inverse_of g) x y).1) ha hb
    (λ t lt. ap (λ c. letter_at c t) is_first
    ∙ (pair_at (image2 (inverse_of g) X I).0 (image2 (inverse_of g) Z I).0 (image2 (inverse_of g) I X).0 (image2 (inverse_of g) I Z).0 (get_or columns a []) (get_or columns b []) m t la lb lt
    ∙ sym (image2_combined (inverse_of g) (letter_at (get_or columns a []) t) (letter_at (get_or columns b []) t)).0))
    (λ t lt. ap (λ c. letter_at c t) is_second
    ∙ (pair_at (image2 (inverse_of g) X I).1 (image2 (inverse_of g) Z I).1 (image2 (inverse_of g) I X).1 (image2 (inverse_of g) I Z).1 (get_or columns a []) (get_or columns b []) m t la lb lt
    ∙ sym (image2_combined (inverse_of g) (letter_at (get_or columns a []) t) (letter_at (get_or columns b []) t)).1))

pub pair_long : (xa za xb zb : Letter) (ca cb : List Letter) (m : ℕ) → length ca ≡ m → length cb ≡ m → length (letters_product (map (combined xa za) ca) (map (combined xb zb) cb)) ≡ m
pair_long xa za xb zb ca cb m h k =
    length-letters_product (map (combined xa za) ca) (map (combined xb zb) cb)
    (length-map ca (combined xa za) ∙ (h ∙ sym (length-map cb (combined xb zb) ∙ k)))
    ∙ (length-map ca (combined xa za) ∙ h)

-- a column of two sets of none, and so many of them
pub column_of_none : (m : ℕ) (x z : List Bool) → x ≡ replicate m false → z ≡ replicate m false → letters_of x z ≡ no_letters m
column_of_none m x z h k = ap₂ letters_of h k ∙ letters_of-zeros m

pub columns_fresh : (m n : ℕ) (columns : List (List Letter)) → columns ≡ replicate n (no_letters m) → All (λ column. length column ≡ m) columns
columns_fresh m n columns h =
    subst (All (λ column. length column ≡ m)) (sym h)
    (λ i d lt. ap length (get_or-replicate n i (no_letters m) d (omega (arith, lt, length-replicate n (no_letters m)))) ∙ length-replicate m I)
