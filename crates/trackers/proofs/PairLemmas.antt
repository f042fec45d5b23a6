-- Two columns of a list that is written through its two parts.
use Rattle.std.proofs.Common.{◌≡◌, ℕ, ◌+◌, ◌-◌, ◌<◌, List, [], ◌++◌, Result, Ok, Err, OnOk, length, map, take, drop, set, get_or, ap, ap₂, subst, sym, ◌∙◌, arith, length-set, ◌*◌, ◌≤◌, Fits, w64, rules}
use Rattle.std.specs.Prelude.{All}
use Rattle.std.proofs.lemmas.List.{get_or-take, get_or-drop, get_or_default, set-append_left, set-append_right, take-append-drop, length-drop, length-take-le}
use Rattle.std.proofs.lemmas.List.Elements.{All-set}
use Rattle.pauli_word.specs.declared.letter.Letter.{Letter}
use Rattle.pauli_word.specs.Words.{letters_product}
use Rattle.trackers.specs.private.Transposed.{combined, multiplied_columns}

-- two places of a list, of which the first stands in the front and the second starts the back
parts_set : {X : Type 0} (l : List X) (a b : ℕ) (x y : X) → a < b → b < length l → set (take b l) a x ++ set (drop b l) 0 y ≡ set (set l a x) b y
parts_set l a b x y before within =
    let front = take b l in
    let back = drop b l in
    let long : length front ≡ b = length-take-le b l (omega (arith, within)) in
    let none : b - b ≡ 0 = omega arith in
    sym (ap (λ m. set (set m a x) b y) (sym (take-append-drop b l))
    ∙ (ap (λ m. set m b y) (set-append_left front back a x (omega (arith, before, long)))
    ∙ (set-append_right (set front a x) back b b y (length-set front a x ∙ long) (omega arith)
    ∙ ap (λ n. set front a x ++ set back n y) none)))

-- what stands at them, read through the two parts
read_front : {X : Type 0} (l front : List X) (a b : ℕ) (d e : X) → front ≡ take b l → a < b → b < length l → get_or front a d ≡ get_or l a e
read_front l front a b d e same before within = ap (λ m. get_or m a d) same ∙ (get_or-take b l a d before ∙ get_or_default l a d e (omega (arith, before, within)))

at_back : {X : Type 0} (l back : List X) (b : ℕ) (d e : X) → back ≡ drop b l → b < length l → get_or back 0 d ≡ get_or l b e
at_back l back b d e same within =
    let there : b + 0 ≡ b = omega arith in
    ap (λ m. get_or m 0 d) same ∙ (get_or-drop b l 0 d ∙ (ap (λ n. get_or l n d) there ∙ get_or_default l b d e within))

front_long : (m a b : ℕ) (columns front : List (List Letter)) (d : List Letter) → front ≡ take b columns → a < b → b < length columns → All (λ column. length column ≡ m) columns → length (get_or front a d) ≡ m
front_long m a b columns front d same before within long = ap length (read_front columns front a b d [] same before within) ∙ long a [] (omega (arith, before, within))

back_long : (m b : ℕ) (columns back : List (List Letter)) (d : List Letter) → back ≡ drop b columns → b < length columns → All (λ column. length column ≡ m) columns → length (get_or back 0 d) ≡ m
back_long m b columns back d same within long = ap length (at_back columns back b d [] same within) ∙ long b [] within

-- what follows from two facts where a call answers
pub both_ok : {T E P Q R : Type 0} (r : Result T E) → (P → Q → R) → OnOk r P → OnOk r Q → OnOk r R
both_ok (Ok x) f p q = f p q
both_ok (Err e) f p q = tt

-- the columns at two places, read and written; u and v are those that stood there
pub made : (columns : List (List Letter)) (a b : ℕ) (to_first to_second : Letter × Letter) (u v x y : List Letter) → u ≡ get_or columns a [] → v ≡ get_or columns b []
    → x ≡ letters_product u (map (combined to_first.0 to_first.1) v) → y ≡ letters_product v (map (combined to_second.0 to_second.1) u)
    → set (set columns a x) b y ≡ multiplied_columns a b to_first to_second columns
made columns a b to_first to_second u v x y u_is v_is x_is y_is =
    ap₂ (λ s t. set (set columns a s) b t)
    (x_is ∙ ap₂ (λ p q. letters_product p (map (combined to_first.0 to_first.1) q)) u_is v_is)
    (y_is ∙ ap₂ (λ p q. letters_product q (map (combined to_second.0 to_second.1) p)) u_is v_is)

-- all columns stay as long
both_long : (m a b : ℕ) (columns : List (List Letter)) (x y : List Letter) → length x ≡ m → length y ≡ m → All (λ column. length column ≡ m) columns → All (λ column. length column ≡ m) (set (set columns a x) b y)
both_long m a b columns x y x_long y_long long =
    All-set (λ column. length column ≡ m) (set columns a x) b y y_long (All-set (λ column. length column ≡ m) columns a x x_long long)

-- columns in two parts, of which the front has one place and the back starts at the other: what is read and written at them
pub record AreParts (m a b : ℕ) (columns front back : List (List Letter)) : Type 0 where
  pub in_front : a < length front
  pub in_back : 0 < length back
  pub first_is : (d : List Letter) → get_or front a d ≡ get_or columns a []
  pub second_is : (d : List Letter) → get_or back 0 d ≡ get_or columns b []
  pub first_long : (d : List Letter) → length (get_or front a d) ≡ m
  pub second_long : (d : List Letter) → length (get_or back 0 d) ≡ m
  pub whole : (x y : List Letter) → set front a x ++ set back 0 y ≡ set (set columns a x) b y
  pub stay_long : (x y : List Letter) → length x ≡ m → length y ≡ m → All (λ column. length column ≡ m) (set front a x ++ set back 0 y)

pub parts_of : (m a b : ℕ) (columns front back : List (List Letter)) → front ≡ take b columns → back ≡ drop b columns → a < b → b < length columns → All (λ column. length column ≡ m) columns → AreParts m a b columns front back
parts_of m a b columns front back is_front is_back before within long =
    let whole : (x y : List Letter) → set front a x ++ set back 0 y ≡ set (set columns a x) b y =
    λ x y. ap₂ (λ (f k : List (List Letter)). set f a x ++ set k 0 y) is_front is_back ∙ parts_set columns a b x y before within in
    let front_count : length front ≡ b = ap length is_front ∙ length-take-le b columns (omega (arith, within)) in
    let back_count : length back ≡ length columns - b = ap length is_back ∙ length-drop b columns in
    record {
      in_front = omega (arith, front_count, before);
      in_back = omega (arith, back_count, within);
      first_is = λ d. read_front columns front a b d [] is_front before within;
      second_is = λ d. at_back columns back b d [] is_back within;
      first_long = λ d. front_long m a b columns front d is_front before within long;
      second_long = λ d. back_long m b columns back d is_back within long;
      whole = whole;
      stay_long = λ x y x_long y_long. subst (All (λ column. length column ≡ m)) (sym (whole x y)) (both_long m a b columns x y x_long y_long long);
    }

-- the first column lies at 0, whatever a column's size is
pub fits_none : (size : ℕ) → Fits w64 (0 * size)
fits_none size = search rules

pub split_inside : (k n : ℕ) → k < n → k ≤ n
split_inside k n h = omega (arith, h)
