-- How many targets are in a set, and how many letters words have at a qubit.
use Rattle.std.proofs.Common.{◌≡◌, ℕ, ◌+◌, ◌<◌, List, [], ◌∷◌, Bool, false, cond, map, length, get_or, refl, ap, ap₂, sym, ◌∙◌}
use Rattle.std.specs.Prelude.{count_by, fold}
use Rattle.std.specs.List.{range_with_len}
use Rattle.std.proofs.lemmas.List.FromFn.{fill_by_all}
use Rattle.std.proofs.lemmas.List.Sums.{length-filter}
use Rattle.pauli_word.specs.declared.letter.Letter.{Letter}
use Rattle.pauli_word.specs.declared.letter.Letter.TheVariants.{I}
use Rattle.pauli_word.specs.Bits.{x_bit, z_bit, letters_of}
use Rattle.pauli_word.specs.Words.{letter_at}
use Rattle.step_model.specs.TargetSets.{members}
use Rattle.trackers.specs.Tracked.{letters_at}
use Rattle.trackers.specs.private.Transposed.{tracked_of, transposed, word_at}
use Rattle.trackers.proofs.KeptLemmas.{bits_of_column}
use Rattle.trackers.proofs.TransposedLemmas.{read_at}

counted_from : {X : Type 0} (p q : X → Bool) (s : ℕ) (xs : List X) → ((x : X) → p x ≡ q x) → fold (λ a x. a + cond (p x) 1 0) s xs ≡ fold (λ a x. a + cond (q x) 1 0) s xs
counted_from p q s [] same = refl
counted_from p q s (x ∷ xs) same =
    ap (λ b. fold (λ a y. a + cond (p y) 1 0) (s + cond b 1 0) xs) (same x) ∙ counted_from p q (s + cond (q x) 1 0) xs same

count_by_same : {X : Type 0} (p q : X → Bool) (xs : List X) → ((x : X) → p x ≡ q x) → count_by p xs ≡ count_by q xs
count_by_same p q xs same = counted_from p q 0 xs same

mapped_from : {X Y : Type 0} (p : Y → Bool) (f : X → Y) (s : ℕ) (xs : List X) → fold (λ a y. a + cond (p y) 1 0) s (map f xs) ≡ fold (λ a x. a + cond (p (f x)) 1 0) s xs
mapped_from p f s [] = refl
mapped_from p f s (x ∷ xs) = mapped_from p f (s + cond (p (f x)) 1 0) xs

pub count_by-map : {X Y : Type 0} (p : Y → Bool) (f : X → Y) (xs : List X) → count_by p (map f xs) ≡ count_by (λ x. p (f x)) xs
count_by-map p f xs = mapped_from p f 0 xs

-- a set has as many targets as its list
pub members_counted : (row : List Bool) → count_by (λ b. b) row ≡ length (members row)
members_counted row =
    ap (count_by (λ b. b)) (fill_by_all (λ t. get_or row t false) row (length row) false refl (λ t h. refl))
    ∙ count_by-map (λ b. b) (λ t. get_or row t false) (range_with_len 0 (length row))
    ∙ sym (length-filter (λ t. get_or row t false) (range_with_len 0 (length row)))

-- the letters at a qubit are those of its column
letters_counted : (m q : ℕ) (columns : List (List Letter)) (column : List Letter) (bit : Letter → Bool) → q < length columns → get_or columns q [] ≡ column → length column ≡ m
    → count_by bit column ≡ count_by (λ word. bit (letter_at word q)) (transposed m columns)
letters_counted m q columns column bit within is long =
    ap (count_by bit) (fill_by_all (letter_at column) column m I long (λ t h. refl))
    ∙ (count_by-map bit (letter_at column) (range_with_len 0 m)
    ∙ (count_by_same (λ t. bit (letter_at column t)) (λ t. bit (letter_at (word_at columns t) q)) (range_with_len 0 m)
    (λ t. ap bit (ap (λ c. letter_at c t) (sym is) ∙ sym (read_at columns t q within)))
    ∙ sym (count_by-map (λ word. bit (letter_at word q)) (word_at columns) (range_with_len 0 m))))

pub column_counted : (m q : ℕ) (columns : List (List Letter)) (column : List Letter) → q < length columns → get_or columns q [] ≡ column → length column ≡ m
    → count_by x_bit column + count_by z_bit column ≡ letters_at q (tracked_of m columns)
column_counted m q columns column within is long =
    ap₂ (λ a b. a + b) (letters_counted m q columns column x_bit within is long) (letters_counted m q columns column z_bit within is long)

-- the two sets of a column
pub bits_counted : (x z : List Bool) (column : List Letter) → length x ≡ length z → letters_of x z ≡ column → (count_by (λ b. b) x ≡ count_by x_bit column) × (count_by (λ b. b) z ≡ count_by z_bit column)
bits_counted x z column long is =
    let both = bits_of_column x z column long is in
    (ap (count_by (λ b. b)) (sym both.0) ∙ count_by-map (λ b. b) x_bit column, ap (count_by (λ b. b)) (sym both.1) ∙ count_by-map (λ b. b) z_bit column)
