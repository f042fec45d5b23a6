-- What the pass of a random collapse makes of one row, and of all rows.
use Rattle.std.proofs.Common.{◌≡◌, ◌≢◌, ◌<◌, ◌+◌, ◌++◌, ◌⊎◌, inl, inr, ℕ, zero, suc, Bool, true, false, not, if◌then◌else◌, List, [], ◌∷◌, length, take, drop, set, get_or, map, refl, ap, ap₂, sym, ◌∙◌, arith, subst, length-set, get_or-set_same}
use Rattle.std.proofs.Math.Bool.{beq}
use Rattle.std.proofs.lemmas.List.Edits.{map_over_more}
use Rattle.pauli_word.specs.declared.letter.Letter.{Letter}
use Rattle.pauli_word.specs.declared.letter.Letter.TheVariants.{I, X, Y, Z}
use Rattle.pauli_word.specs.Letters.{is_minus, letter_product, letter_power, letters_clash}
use Rattle.pauli_word.specs.Parity.{exclusive_or}
use Rattle.pauli_word.specs.Words.{Signed, signed, with_sign_changed, product, letter_at}
use Rattle.pauli_word.proofs.LetterLaws.{letters_clash_comm}
use Rattle.pauli_word.proofs.LoneLetters.{length-lone_letter, anticommute-lone_letter, letters_product-lone_letter, letters_power-lone_letter}
use Rattle.pauli_word.proofs.Parities.{exclusive_or-false}
use Rattle.pauli_word.proofs.SignedLaws.{product_comm, product-sign_changed_left}
use Rattle.pauli_word.proofs.WordLaws.{anticommute_comm}
use Rattle.tableau.specs.private.CliffordMaps.{twisted}
use Rattle.tableau.specs.private.Encoding.{Pair}
use Rattle.tableau.specs.private.EncodingSteps.{lone, mapped, IsPivot}
use Rattle.tableau.proofs.FirstLetters.{product-lone}
use Rattle.tableau.proofs.Turns.{clash, clash_comm, product_size, turned_if}
use Rattle.tableau.proofs.Twists.{twist_along, twist_across}

-- the pivot, step by step
pub pivot_made : (n k : ℕ) → k < n → (x : Signed) → length x.letters ≡ n → (coin : Bool) → (first : Signed) → first ≡ signed (set x.letters k I) x.negative → (rest : Signed) → rest ≡ with_sign_changed coin first → (copied : Signed) → copied ≡ rest → (with_Z : Signed) → with_Z ≡ signed (set copied.letters k Z) copied.negative → (turned : Signed) → turned ≡ with_sign_changed true with_Z → IsPivot n k (rest, turned)
pivot_made n k inside x x_size coin first first_is rest rest_is copied copied_is with_Z with_Z_is turned turned_is =
    let letters : rest.letters ≡ set x.letters k I = ap (λ w. w.letters) (rest_is ∙ ap (with_sign_changed coin) first_is) in
    let size : length rest.letters ≡ n = ap length letters ∙ (length-set x.letters k I ∙ x_size) in
    let at_k : letter_at rest.letters k ≡ I = ap (λ l. letter_at l k) letters ∙ get_or-set_same x.letters k I I (subst (λ m. k < m) (sym x_size) inside) in
    record {
      inside = inside;
      rest_size = size;
      rest = at_k;
      turned =
          turned_is
          ∙ ap (with_sign_changed true)
          (with_Z_is
          ∙ (ap (λ w. signed (set w.letters k Z) w.negative) copied_is
          ∙ sym
          (ap (λ s. product (signed rest.letters s) (lone n k Z)) (sym (exclusive_or-false rest.negative))
          ∙ (product-sign_changed_left rest.negative (signed rest.letters false) (lone n k Z)
          ∙ (ap (with_sign_changed rest.negative) (product-lone n rest.letters k Z size inside at_k)
          ∙ ap (signed (set rest.letters k Z)) (exclusive_or-false rest.negative))))));
    }

module _ (n k : ℕ) (code : Pair) (pivot : IsPivot n k code) where
  abbrev u : Signed
  u = lone n k Z

  abbrev y : Signed
  y = code.0

  u_size : length u.letters ≡ n
  u_size = length-lone_letter n k Z

  pub turned_size : length code.1.letters ≡ n
  turned_size = ap (λ w. length w.letters) pivot.turned ∙ product_size n y u pivot.rest_size u_size

  y_u : clash y u ≡ false
  y_u =
      anticommute_comm y.letters u.letters
      ∙ (anticommute-lone_letter n y.letters k Z pivot.rest_size pivot.inside ∙ ap (letters_clash Z) pivot.rest)

  module _ (v : Signed) (v_size : length v.letters ≡ n) where
    pub multiplied_size : length (product v code.0).letters ≡ n
    multiplied_size = product_size n v y v_size pivot.rest_size

    pub multiplied_turned_size : length (product v code.1).letters ≡ n
    multiplied_turned_size = product_size n v code.1 v_size turned_size

    v_u : clash v u ≡ letters_clash (letter_at v.letters k) Z
    v_u =
        clash_comm v u ∙ (anticommute-lone_letter n v.letters k Z v_size pivot.inside ∙ letters_clash_comm Z (letter_at v.letters k))

    -- whether v anticommutes with y, told by two truth values
    told : (s t b : Bool) → clash v y ≡ exclusive_or s t → not (beq s t) ≡ b → clash v y ≡ b
    told s t b e f = e ∙ (sym (differ s t) ∙ f) where
      differ : (s t : Bool) → not (beq s t) ≡ exclusive_or s t
      differ false false = refl
      differ false true = refl
      differ true false = refl
      differ true true = refl

    has_x : (a : Letter) → a ≡ letter_at v.letters k → (a ≡ X) ⊎ (a ≡ Y) → clash v u ≡ true
    has_x a a_is either = v_u ∙ (ap (λ b. letters_clash b Z) (sym a_is) ∙ elim either [ inl e ↦ ap (λ b. letters_clash b Z) e | inr e ↦ ap (λ b. letters_clash b Z) e ])

    across : (b : Bool) → clash v y ≡ b → clash v u ≡ true → twisted u y v ≡ (if b then product v y else product v code.1)
    across b e vu =
        twist_across n u y u_size pivot.rest_size y_u v v_size vu
        ∙ ap₂ (λ t w. if t then product v y else product v w) e (sym pivot.turned)

    pub across_commuting : (s t : Bool) → clash v y ≡ exclusive_or s t → not (beq s t) ≡ false → (a : Letter) → a ≡ letter_at v.letters k → (a ≡ X) ⊎ (a ≡ Y) → product v code.1 ≡ twisted u y v
    across_commuting s t e f a a_is either = sym (across false (told s t false e f) (has_x a a_is either))

    pub across_clashing : (s t : Bool) → clash v y ≡ exclusive_or s t → not (beq s t) ≡ true → (a : Letter) → a ≡ letter_at v.letters k → (a ≡ X) ⊎ (a ≡ Y) → product v code.0 ≡ twisted u y v
    across_clashing s t e f a a_is either = sym (across true (told s t true e f) (has_x a a_is either))

    no_x : (a : Letter) → a ≢ X → a ≢ Y → letters_clash a Z ≡ false
    no_x I h k = refl
    no_x X h k = absurd (h refl)
    no_x Y h k = absurd (k refl)
    no_x Z h k = refl

    one_power : (a : Letter) → a ≢ X → a ≢ Y → is_minus (letter_power Z a) ≡ false
    one_power I h k = refl
    one_power X h k = absurd (h refl)
    one_power Y h k = absurd (k refl)
    one_power Z h k = refl

    pub along_clashing : (s t : Bool) → clash v y ≡ exclusive_or s t → not (beq s t) ≡ true → (a : Letter) → a ≡ letter_at v.letters k → a ≢ X → a ≢ Y → (b : Letter) → b ≡ letter_product Z a → signed (set v.letters k b) v.negative ≡ twisted u y v
    along_clashing s t e f a a_is not_X not_Y b b_is =
        let vu : clash v u ≡ false = v_u ∙ (ap (λ c. letters_clash c Z) (sym a_is) ∙ no_x a not_X not_Y) in
        sym
        (twist_along n u y u_size pivot.rest_size y_u v v_size vu
        ∙ (ap (λ c. turned_if c u v) (told s t true e f)
        ∙ (product_comm v u vu
        ∙ ap₂ signed
        (letters_product-lone_letter n v.letters k Z v_size pivot.inside ∙ ap (set v.letters k) (ap (letter_product Z) (sym a_is) ∙ sym b_is))
        (ap (λ t. exclusive_or v.negative (is_minus t)) (letters_power-lone_letter n v.letters k Z v_size pivot.inside ∙ ap (letter_power Z) (sym a_is))
        ∙ (ap (exclusive_or v.negative) (one_power a not_X not_Y) ∙ exclusive_or-false v.negative)))))

    pub along_commuting : (s t : Bool) → clash v y ≡ exclusive_or s t → not (beq s t) ≡ false → (a : Letter) → a ≡ letter_at v.letters k → a ≢ X → a ≢ Y → v ≡ twisted u y v
    along_commuting s t e f a a_is not_X not_Y =
        let vu : clash v u ≡ false = v_u ∙ (ap (λ c. letters_clash c Z) (sym a_is) ∙ no_x a not_X not_Y) in
        sym
        (twist_along n u y u_size pivot.rest_size y_u v v_size vu
        ∙ ap (λ c. turned_if c u v) (told s t false e f))

-- ---- a loop that maps each row
-- what is ahead of such a loop is as it was
pub current : {X : Type 0} (f : X → X) (xs ys : List X) (i : ℕ) (d : X) → i < length xs → ys ≡ map f (take i xs) ++ drop i xs → get_or ys i d ≡ get_or xs i d
current f xs ys i d h e = ap (λ l. get_or l i d) e ∙ ahead f xs i d h where
  ahead : {X : Type 0} (f : X → X) (xs : List X) (i : ℕ) (d : X) → i < length xs → get_or (map f (take i xs) ++ drop i xs) i d ≡ get_or xs i d
  ahead f [] i d h = absurd (omega arith)
  ahead f (x ∷ xs) zero d h = refl
  ahead f (x ∷ xs) (suc i) d h = ahead f xs i d (omega arith)

pub mapped_more : (c : Signed → Signed) (xs ys : List Pair) (i : ℕ) (x y : Pair) → i < length xs → ys ≡ mapped c (take i xs) ++ drop i xs → x ≡ get_or ys i x → y ≡ (c x.0, c x.1) → set ys i y ≡ mapped c (take (i + 1) xs) ++ drop (i + 1) xs
mapped_more c xs ys i x y h e at is = ap (set ys i) is ∙ map_over_more (λ r. (c r.0, c r.1)) xs ys i x h e at
