-- Columns kept as lists of targets, two a column, and made from such lists.
use Rattle.std.proofs.Common.{◌≡◌, ℕ, zero, suc, ◌+◌, ◌*◌, ◌<◌, Bool, true, false, List, [], ◌∷◌, ◌++◌, map, length, get_or, set, refl, ap, ap₂, subst, sym, ◌∙◌, arith}
use Rattle.std.specs.Prelude.{All}
use Rattle.std.specs.List.{range_with_len}
use Rattle.std.proofs.Math.Nat.{suc_inj}
use Rattle.std.proofs.lemmas.List.{get_or-map, get_or_default, length-map, map-set, set-get_or}
use Rattle.std.proofs.lemmas.List.FromFn.{length-map-range_with_len}
use Rattle.pauli_word.specs.declared.letter.Letter.{Letter}
use Rattle.pauli_word.specs.declared.letter.Letter.TheVariants.{I}
use Rattle.pauli_word.specs.Bits.{letter_of, x_bit, z_bit, letters_of}
use Rattle.pauli_word.specs.Words.{letter_at}
use Rattle.pauli_word.proofs.BitWords.{letter_at-letters_of}
use Rattle.pauli_word.proofs.LetterTests.{letter_of-bits}
use Rattle.step_model.specs.Targets.{is_listed}
use Rattle.trackers.specs.Tracked.{Tracked, Fit, listed_word, restored}
use Rattle.step_model.specs.TargetSets.{members, row_of_set}
use Rattle.trackers.specs.private.Transposed.{AreRestored, column_of, lists_of, lists_of_each, tracked_of, transposed, word_at}
use Rattle.step_model.proofs.MemberLemmas.{listed_in_range, map_range_below, members_within}
use Rattle.step_model.proofs.RowLemmas.{get_or-row_of_set, length-row_of_set}
use Rattle.trackers.proofs.TransposedLemmas.{tracked_words}

-- ---- the bits of letters
letter_bits : (a b : Bool) → (x_bit (letter_of a b) ≡ a) × (z_bit (letter_of a b) ≡ b)
letter_bits true true = (refl, refl)
letter_bits true false = (refl, refl)
letter_bits false true = (refl, refl)
letter_bits false false = (refl, refl)

row_bits : (x z : List Bool) → length x ≡ length z → (map x_bit (letters_of x z) ≡ x) × (map z_bit (letters_of x z) ≡ z)
row_bits [] [] h = (refl, refl)
row_bits [] (b ∷ z) h = cc
row_bits (a ∷ x) [] h = cc
row_bits (a ∷ x) (b ∷ z) h =
    let here = letter_bits a b in
    let rest = row_bits x z (suc_inj h) in
    (ap₂ (λ c r. c ∷ r) here.0 rest.0, ap₂ (λ c r. c ∷ r) here.1 rest.1)

pub bits_of_column : (x z : List Bool) (column : List Letter) → length x ≡ length z → letters_of x z ≡ column → (map x_bit column ≡ x) × (map z_bit column ≡ z)
bits_of_column x z column h e = subst (λ c. (map x_bit c ≡ x) × (map z_bit c ≡ z)) e (row_bits x z h)

-- ---- what is kept
pub lists_of_more : (columns : List (List Letter)) (column : List Letter) → lists_of_each (columns ++ column ∷ []) ≡ lists_of_each columns ++ lists_of column
lists_of_more [] column = refl
lists_of_more (c ∷ columns) column = ap (λ lists. lists_of c ++ lists) (lists_of_more columns column)

-- a letter is in a list of its column where its bit is set
listed_bit : (bit : Letter → Bool) (column : List Letter) (t : ℕ) → bit I ≡ false → t < length column → is_listed (members (map bit column)) t ≡ bit (letter_at column t)
listed_bit bit column t none h =
    listed_in_range (λ k. get_or (map bit column) k false) t 0 (length (map bit column)) (omega arith) (omega (arith, length-map column bit, h))
    ∙ get_or-map bit column t I false h

listed_letter : (column : List Letter) (t : ℕ) → t < length column → letter_of (is_listed (members (map x_bit column)) t) (is_listed (members (map z_bit column)) t) ≡ letter_at column t
listed_letter column t h = ap₂ letter_of (listed_bit x_bit column t refl h) (listed_bit z_bit column t refl h) ∙ letter_of-bits (letter_at column t)

kept_word : (m t : ℕ) (columns : List (List Letter)) → t < m → All (λ column. length column ≡ m) columns → listed_word (lists_of_each columns) t ≡ word_at columns t
kept_word m t [] lt long = refl
kept_word m t (column ∷ columns) lt long =
    let here : length column ≡ m = long 0 column (omega arith) in
    ap₂ (λ a w. a ∷ w) (listed_letter column t (omega (arith, lt, here))) (kept_word m t columns lt (λ k d within. long (suc k) d (omega (arith, within))))

two_each : (columns : List (List Letter)) → length (lists_of_each columns) ≡ 2 * length columns
two_each [] = refl
two_each (column ∷ columns) = let others = two_each columns in omega (arith, others)

bits_named : (m : ℕ) (bit : Letter → Bool) (column : List Letter) → length column ≡ m → All (λ t. t < m) (members (map bit column))
bits_named m bit column long =
    subst (λ n. All (λ t. t < n) (members (map bit column))) (length-map column bit ∙ long) (members_within (map bit column))

all_named : (m : ℕ) (columns : List (List Letter)) → All (λ column. length column ≡ m) columns → All (All (λ t. t < m)) (lists_of_each columns)
all_named m [] long k d lt = absurd (omega (arith, lt))
all_named m (column ∷ columns) long zero d lt = bits_named m x_bit column (long 0 column (omega arith))
all_named m (column ∷ columns) long (suc zero) d lt = bits_named m z_bit column (long 0 column (omega arith))
all_named m (column ∷ columns) long (suc (suc k)) d lt =
    all_named m columns (λ j c within. long (suc j) c (omega (arith, within))) k d (omega (arith, lt))

pub words_long : (m : ℕ) (columns : List (List Letter)) → length (transposed m columns) ≡ m
words_long m columns = length-map-range_with_len (word_at columns) 0 m

pub kept_fit : (m : ℕ) (columns : List (List Letter)) → All (λ column. length column ≡ m) columns → Fit (tracked_of m columns) (lists_of_each columns)
kept_fit m columns long =
    record {
      two_each = two_each columns;
      named = subst (λ n. All (All (λ t. t < n)) (lists_of_each columns)) (sym (words_long m columns)) (all_named m columns long);
    }

pub kept_restored : (m : ℕ) (columns : List (List Letter)) → All (λ column. length column ≡ m) columns → restored (lists_of_each columns) (tracked_of m columns) ≡ tracked_of m columns
kept_restored m columns long =
    ap (tracked_words (length columns))
    (ap (λ n. map (listed_word (lists_of_each columns)) (range_with_len 0 n)) (words_long m columns)
    ∙ map_range_below (listed_word (lists_of_each columns)) (word_at columns) 0 m (λ t lt. kept_word m t columns (omega (arith, lt)) long))

-- ---- what is restored
restored_letter : (m t : ℕ) (x z : List ℕ) → t < m → letter_at (column_of m x z) t ≡ letter_of (is_listed x t) (is_listed z t)
restored_letter m t x z lt =
    letter_at-letters_of (row_of_set m x) (row_of_set m z) t (length-row_of_set m x ∙ sym (length-row_of_set m z))
    ∙ ap₂ letter_of (get_or-row_of_set m x t lt) (get_or-row_of_set m z t lt)

restored_word : (m t : ℕ) (columns : List (List Letter)) (lists : List (List ℕ)) → t < m → length lists ≡ 2 * length columns
    → ((k : ℕ) → k < length columns → get_or columns k [] ≡ column_of m (get_or lists (2 * k) []) (get_or lists (2 * k + 1) []))
    → word_at columns t ≡ listed_word lists t
restored_word m t [] [] lt two made = refl
restored_word m t [] (x ∷ lists) lt two made = absurd (omega (arith, two))
restored_word m t (column ∷ columns) [] lt two made = absurd (omega (arith, two))
restored_word m t (column ∷ columns) (x ∷ []) lt two made = absurd (omega (arith, two))
restored_word m t (column ∷ columns) (x ∷ z ∷ lists) lt two made =
    ap₂ (λ a w. a ∷ w) (ap (λ c. letter_at c t) (made 0 (omega arith)) ∙ restored_letter m t x z lt)
    (restored_word m t columns lists lt (omega (arith, two))
    (λ k within. made (suc k) (omega (arith, within))
    ∙ ap₂ (λ i j. column_of m (get_or (x ∷ z ∷ lists) i []) (get_or (x ∷ z ∷ lists) j []))
    (let e : 2 * suc k ≡ suc (suc (2 * k)) = omega arith in e) (let e : 2 * suc k + 1 ≡ suc (suc (2 * k + 1)) = omega arith in e)))

pub restored_columns : (m : ℕ) (lists : List (List ℕ)) (old new : List (List Letter)) → All (λ column. length column ≡ m) old → length lists ≡ 2 * length old → AreRestored lists old new → tracked_of m new ≡ restored lists (tracked_of m old)
restored_columns m lists old new long two made =
    ap (λ n. tracked_words n (transposed m new)) made.count
    ∙ ap (tracked_words (length old))
    (map_range_below (word_at new) (listed_word lists) 0 m
    (λ t lt. restored_word m t new lists (omega (arith, lt)) (omega (arith, two, made.count))
    (λ k within. let low : k < length old = omega (arith, within, made.count) in made.each k low ∙ ap (λ n. column_of n (get_or lists (2 * k) []) (get_or lists (2 * k + 1) [])) (long k [] low)))
    ∙ ap (λ n. map (listed_word lists) (range_with_len 0 n)) (sym (words_long m old)))

-- a column is replaced by one as long
pub lengths-set : (columns : List (List Letter)) (q : ℕ) (column : List Letter) → q < length columns → length column ≡ length (get_or columns q []) → map length (set columns q column) ≡ map length columns
lengths-set columns q column within long =
    map-set length columns q column
    ∙ (ap (set (map length columns) q) (long ∙ sym (get_or-map length columns q [] 0 within)) ∙ set-get_or (map length columns) q 0)

pub length_there : (old new : List (List Letter)) (k : ℕ) → map length new ≡ map length old → length new ≡ length old → k < length old → length (get_or new k []) ≡ length (get_or old k [])
length_there old new k same count within =
    sym (get_or-map length new k [] 0 (omega (arith, within, count))) ∙ (ap (λ (ns : List ℕ). get_or ns k 0) same ∙ get_or-map length old k [] 0 within)

pub all_long : (m : ℕ) (old new : List (List Letter)) → map length new ≡ map length old → length new ≡ length old → All (λ column. length column ≡ m) old → All (λ column. length column ≡ m) new
all_long m old new same count long k d within =
    let low : k < length old = omega (arith, within, count) in
    ap length (get_or_default new k d [] within) ∙ (length_there old new k same count low ∙ long k [] low)

-- targets that have words are below the length of each column
pub all_named_below : (m : ℕ) (columns : List (List Letter)) (lists : List (List ℕ)) → All (λ column. length column ≡ m) columns → All (All (λ t. t < m)) lists → All (λ column. All (All (λ t. t < length column)) lists) columns
all_named_below m columns lists long named k d within = subst (λ n. All (All (λ t. t < n)) lists) (sym (long k d within)) named

-- the lists of a tracker, where another of its size is
pub restored_alike : (lists : List (List ℕ)) (s t : Tracked) → s.qubits ≡ t.qubits → length s.words ≡ length t.words → restored lists s ≡ restored lists t
restored_alike lists s t qubits words =
    ap₂ (λ n m. tracked_words n (map (listed_word lists) (range_with_len 0 m))) qubits words

pub fit_alike : (lists : List (List ℕ)) (s t : Tracked) → s.qubits ≡ t.qubits → length s.words ≡ length t.words → Fit t lists → Fit s lists
fit_alike lists s t qubits words fit =
    record {
      two_each = fit.two_each ∙ ap (λ n. 2 * n) (sym qubits);
      named = subst (λ n. All (All (λ k. k < n)) lists) (sym words) fit.named;
    }
