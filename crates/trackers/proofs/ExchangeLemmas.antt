-- Gates that put at each of two qubits an image of the letters at the other.
use Rattle.std.proofs.Common.{◌≡◌, ◌≢◌, ℕ, List, [], map, length, get_or, set, refl, ap, ap₂, subst, sym, ◌∙◌, arith, length-set, get_or-set_other}
use Rattle.std.specs.Prelude.{All}
use Rattle.std.proofs.lemmas.List.{get_or-map, set-set, set_comm}
use Rattle.std.proofs.lemmas.List.Elements.{All-set}
use Rattle.gate_table.specs.declared.gate.Gate.{Gate}
use Rattle.gate_table.specs.Images.{image2, inverse_of}
use Rattle.pauli_word.specs.declared.letter.Letter.{Letter}
use Rattle.pauli_word.specs.declared.letter.Letter.TheVariants.{I, X, Y, Z}
use Rattle.pauli_word.specs.Letters.{letter_product}
use Rattle.pauli_word.specs.Words.{letter_at}
use Rattle.pauli_word.proofs.LetterLaws.{letter_product-I, letter_product_comm}
use Rattle.trackers.specs.Tracked.{each_word, undone_two}
use Rattle.trackers.specs.declared.images.PairImages.{PairImages}
use Rattle.trackers.specs.private.PairImages.{AreBefore}
use Rattle.trackers.specs.private.Transposed.{ArePlaces, combined, exchanged_at, exchanged_columns, tracked_of}
use Rattle.trackers.proofs.TransposedLemmas.{image2_combined, tracked_set_two}

-- ---- lists

-- two elements written twice
pub written_over : {A : Type 0} (l : List A) (a b : ℕ) (u v x y : A) → a ≢ b → set (set (set (set l a u) b v) a x) b y ≡ set (set l a x) b y
written_over l a b u v x y different =
    ap (λ m. set m b y)
    (ap (λ m. set m a x) (set_comm l a b u v different)
    ∙ (set-set (set l b v) a u x ∙ sym (set_comm l a b x v different)))
    ∙ set-set (set l a x) b v y

-- two columns changed places: what is read at them then, of which the first is written before the second is read
pub record AreSwapped (m a b : ℕ) (swapped : List (List Letter)) : Type 0 where
  pub first_long : (d : List Letter) → length (get_or swapped a d) ≡ m
  pub second_long : (x d : List Letter) → length (get_or (set swapped a x) b d) ≡ m
  pub once_long : (x : List Letter) → length x ≡ m → All (λ column. length column ≡ m) (set swapped a x)
  pub both_long : (x y : List Letter) → length x ≡ m → length y ≡ m → All (λ column. length column ≡ m) (set (set swapped a x) b y)

pub swapped_of : (m a b : ℕ) (columns swapped : List (List Letter)) → swapped ≡ set (set columns a (get_or columns b [])) b (get_or columns a []) → ArePlaces (length columns) a b → All (λ column. length column ≡ m) columns → AreSwapped m a b swapped
swapped_of m a b columns swapped whole places long =
    let is_long : List Letter → Type 0 = λ column. length column ≡ m in
    let counted : length swapped ≡ length columns = ap length whole ∙ (length-set (set columns a (get_or columns b [])) b (get_or columns a []) ∙ length-set columns a (get_or columns b [])) in
    let all : All (λ column. length column ≡ m) swapped =
    subst (All is_long) (sym whole)
    (All-set is_long (set columns a (get_or columns b [])) b (get_or columns a []) (long a [] places.first)
    (All-set is_long columns a (get_or columns b []) (long b [] places.second) long)) in
    record {
      first_long = λ d. all a d (omega (arith, counted, places.first));
      second_long = λ x d. ap length (get_or-set_other swapped a b x d (λ e. places.differ (sym e))) ∙ all b d (omega (arith, counted, places.second));
      once_long = λ x x_long. All-set is_long swapped a x x_long all;
      both_long = λ x y x_long y_long. All-set is_long (set swapped a x) b y y_long (All-set is_long swapped a x x_long all);
    }

-- ---- words
pub tracked_exchanged : (m : ℕ) (columns : List (List Letter)) (a b : ℕ) (to_first to_second : Letter × Letter) → ArePlaces (length columns) a b → All (λ column. length column ≡ m) columns
    → tracked_of m (exchanged_columns a b to_first to_second columns) ≡ each_word (exchanged_at a b to_first to_second) (tracked_of m columns)
tracked_exchanged m columns a b to_first to_second places long =
    tracked_set_two m columns a b (map (combined to_first.0 to_first.1) (get_or columns b [])) (map (combined to_second.0 to_second.1) (get_or columns a []))
    (λ x y. combined to_first.0 to_first.1 y)
    (λ x y. combined to_second.0 to_second.1 x)
    places.first places.second
    (λ t lt. get_or-map (combined to_first.0 to_first.1) (get_or columns b []) t I I (omega (arith, lt, long b [] places.second)))
    (λ t lt. get_or-map (combined to_second.0 to_second.1) (get_or columns a []) t I I (omega (arith, lt, long a [] places.first)))

-- ---- gates
left-letter : (a : Letter) → combined I I a ≡ I
left-letter I = refl
left-letter X = refl
left-letter Y = refl
left-letter Z = refl

first_image : (g : Gate) (a b : Letter) → (image2 g X I).0 ≡ I → (image2 g Z I).0 ≡ I → (image2 g a b).0 ≡ combined (image2 g I X).0 (image2 g I Z).0 b
first_image g a b x z =
    (image2_combined g a b).0
    ∙ (ap (λ c. letter_product c (combined (image2 g I X).0 (image2 g I Z).0 b)) (ap₂ (λ p q. combined p q a) x z ∙ left-letter a)
    ∙ (letter_product_comm I (combined (image2 g I X).0 (image2 g I Z).0 b) ∙ letter_product-I (combined (image2 g I X).0 (image2 g I Z).0 b)))

second_image : (g : Gate) (a b : Letter) → (image2 g I X).1 ≡ I → (image2 g I Z).1 ≡ I → (image2 g a b).1 ≡ combined (image2 g X I).1 (image2 g Z I).1 a
second_image g a b x z =
    (image2_combined g a b).1
    ∙ (ap (letter_product (combined (image2 g X I).1 (image2 g Z I).1 a)) (ap₂ (λ p q. combined p q b) x z ∙ left-letter b)
    ∙ letter_product-I (combined (image2 g X I).1 (image2 g Z I).1 a))

-- a gate that leaves nothing of X and Z at their own qubit
pub undone-exchanged : (g : Gate) (a b : ℕ) (images : PairImages) (w : List Letter) → AreBefore g images → (images.first_own.0 ≡ I) × (images.first_own.1 ≡ I) → (images.second_own.0 ≡ I) × (images.second_own.1 ≡ I)
    → exchanged_at a b images.first_other images.second_other w ≡ undone_two g a b w
undone-exchanged g a b images w are first second =
    let u = letter_at w a in
    let v = letter_at w b in
    ap₂ (λ (p q : Letter × Letter). exchanged_at a b p q w) are.first_other are.second_other
    ∙ ap₂ (λ c d. set (set w a c) b d)
    (sym (first_image (inverse_of g) u v (sym (ap (λ p. p.0) are.first_own) ∙ first.0) (sym (ap (λ p. p.1) are.first_own) ∙ first.1)))
    (sym (second_image (inverse_of g) u v (sym (ap (λ p. p.0) are.second_own) ∙ second.0) (sym (ap (λ p. p.1) are.second_own) ∙ second.1)))
