-- A collapse, and a reset after it, where two states differ by a frame: the outcomes differ by the collapse's flip, and
-- the states after it differ by the frame, cleared where there is a reset.
use Rattle.std.proofs.Common.{◌≡◌, ℕ, Bool, true, false, not, ◌&&◌, ◌||◌, if◌then◌else◌, inl, inr, ◌<◌, List, length, slice_set, refl, ap, ap₂, sym, ◌∙◌}
use Rattle.std.proofs.lemmas.Bool.{cases_Bool, or_cases}
use Rattle.pauli_word.specs.declared.letter.Letter.{Letter}
use Rattle.pauli_word.specs.declared.letter.Letter.TheVariants.{I}
use Rattle.pauli_word.specs.Letters.{letters_clash, is_minus}
use Rattle.pauli_word.specs.Parity.{exclusive_or}
use Rattle.pauli_word.specs.Words.{Signed, anticommute, product, no_letters, lone_letter, letter_at, signed, with_sign_changed}
use Rattle.pauli_word.proofs.Parities.{same_truth, same_truth-true, at_six_truths}
use Rattle.pauli_word.proofs.LetterTests.{at_three_letters}
use Rattle.pauli_word.proofs.WordLaws.{anticommute_comm, anticommute-product, length-letters_product, letters_product_self, letters_power_self}
use Rattle.pauli_word.proofs.SignedLaws.{product-sign_changed_left, product-sign_changed_right}
use Rattle.pauli_word.specs.States.{State, outcome, is_decided, collapsed, applied, correcting}
use Rattle.pauli_word.specs.Groups.{IsGroup}
use Rattle.run_laws.specs.Shifts.{IsShifted}
use Rattle.step_model.specs.Listing.{is_I}
use Rattle.pauli_word.proofs.LoneLetters.{length-lone_letter}
use Rattle.run_laws.proofs.ShiftWords.{anticommute-lone, anticommute-parts}
use Rattle.pauli_word.proofs.Groups.{sign_changed_twice}

-- two changes of a sign are one
-- a state doesn't have both a word and minus the word
not_both : (n : ℕ) (s : State) (w : List Letter) → IsGroup n s → length w ≡ n → s (signed w false) ≡ true → s (signed w true) ≡ true → false ≡ true
not_both n s w group size plus minus =
    sym group.no_minus
    ∙ ap s (sym (ap₂ signed (letters_product_self w ∙ ap no_letters size) (ap (λ x. exclusive_or true (is_minus x)) (letters_power_self w))))
    ∙ group.closed (signed w false) (signed w true) (record { size = size; member = plus }) (record { size = size; member = minus })

-- the outcome, and whether it is decided, from whether the word and minus the word are in the state
abbrev chosen : Bool → Bool → Bool → Bool
chosen plus minus coin = if plus then false else (if minus then true else coin)

chosen-flipped : (b x y coin : Bool) → (x ≡ true → y ≡ true → false ≡ true) → chosen (if b then y else x) (if b then x else y) (exclusive_or b coin) ≡ exclusive_or b (chosen x y coin)
chosen-flipped false x y coin h = refl
chosen-flipped true true true coin h = h refl refl
chosen-flipped true true false coin h = refl
chosen-flipped true false true coin h = refl
chosen-flipped true false false coin h = refl

or-flipped : (b x y : Bool) → (if b then y else x) || (if b then x else y) ≡ x || y
or-flipped false x y = refl
or-flipped true false false = refl
or-flipped true false true = refl
or-flipped true true false = refl
or-flipped true true true = refl

signed-if : (b : Bool) (s : State) (w : List Letter) (e : Bool) → s (signed w (exclusive_or b e)) ≡ (if b then s (signed w (not e)) else s (signed w e))
signed-if false s w e = refl
signed-if true s w e = refl

-- a word and its negative, of a state that differs by a frame
shifted-plus : (n : ℕ) (v w : List Letter) (s t : State) → IsShifted n v s t → length w ≡ n → t (signed w false) ≡ (if anticommute v w then s (signed w true) else s (signed w false))
shifted-plus n v w s t shifted size =
    shifted (signed w false) size
    ∙ ap (λ b. s (signed w (exclusive_or b false))) (anticommute_comm w v)
    ∙ signed-if (anticommute v w) s w false

shifted-minus : (n : ℕ) (v w : List Letter) (s t : State) → IsShifted n v s t → length w ≡ n → t (signed w true) ≡ (if anticommute v w then s (signed w false) else s (signed w true))
shifted-minus n v w s t shifted size =
    shifted (signed w true) size
    ∙ ap (λ b. s (signed w (exclusive_or b true))) (anticommute_comm w v)
    ∙ signed-if (anticommute v w) s w true

pub outcome-shifted : (n : ℕ) (v w : List Letter) (s t : State) (coin : Bool) → IsShifted n v s t → IsGroup n s → length w ≡ n → outcome t w (exclusive_or (anticommute v w) coin) ≡ exclusive_or (anticommute v w) (outcome s w coin)
outcome-shifted n v w s t coin shifted group size =
    ap₂ (λ x y. chosen x y (exclusive_or (anticommute v w) coin)) (shifted-plus n v w s t shifted size) (shifted-minus n v w s t shifted size)
    ∙ chosen-flipped (anticommute v w) (s (signed w false)) (s (signed w true)) coin (not_both n s w group size)

pub is_decided-shifted : (n : ℕ) (v w : List Letter) (s t : State) → IsShifted n v s t → length w ≡ n → is_decided t w ≡ is_decided s w
is_decided-shifted n v w s t shifted size =
    ap₂ (λ x y. x || y) (shifted-plus n v w s t shifted size) (shifted-minus n v w s t shifted size)
    ∙ or-flipped (anticommute v w) (s (signed w false)) (s (signed w true))

cancel : (b c : Bool) → exclusive_or (exclusive_or b c) b ≡ c
cancel false false = refl
cancel false true = refl
cancel true false = refl
cancel true true = refl

-- the word times another of the state: its shift is the frame's at both
product-shifted : (n : ℕ) (v w : List Letter) (s t : State) (coin : Bool) (p : Signed) → IsShifted n v s t → length w ≡ n → length p.letters ≡ n → t (product (signed w (exclusive_or (anticommute v w) coin)) p) ≡ s (product (signed w coin) (with_sign_changed (anticommute p.letters v) p))
product-shifted n v w s t coin p shifted size size' =
    let b = anticommute v w in
    let c = anticommute p.letters v in
    shifted (product (signed w (exclusive_or b coin)) p) (length-letters_product w p.letters (size ∙ sym size') ∙ size)
    ∙ ap₂ (λ x y. s (with_sign_changed x y))
    (anticommute-product w p.letters v (size ∙ sym size') ∙ ap (λ x. exclusive_or x c) (anticommute_comm w v))
    (product-sign_changed_left b (signed w coin) p)
    ∙ ap s
    (sign_changed_twice (exclusive_or b c) b (product (signed w coin) p)
    ∙ ap (λ x. with_sign_changed x (product (signed w coin) p)) (cancel b c)
    ∙ sym (product-sign_changed_right c (signed w coin) p))

-- whether a word is in the state after a collapse
abbrev chosen_test : Bool → Bool → Bool → Bool → Bool
chosen_test decided here clash there = if decided then here else not clash && (here || there)

pub collapsed-shifted : (n : ℕ) (v w : List Letter) (s t : State) (coin : Bool) → IsShifted n v s t → length w ≡ n → IsShifted n v (collapsed w coin s) (collapsed w (exclusive_or (anticommute v w) coin) t)
collapsed-shifted n v w s t coin shifted size p size' =
    let c = anticommute p.letters v in
    ap₂ (λ d x. chosen_test d x (anticommute p.letters w) (t (product (signed w (exclusive_or (anticommute v w) coin)) p)))
    (is_decided-shifted n v w s t shifted size) (shifted p size')
    ∙ ap (chosen_test (is_decided s w) (s (with_sign_changed c p)) (anticommute p.letters w)) (product-shifted n v w s t coin p shifted size size')

-- the state before has no such word where the outcome is decided
decided-commutes : (n : ℕ) (w : List Letter) (s : State) (p : Signed) → IsGroup n s → length w ≡ n → length p.letters ≡ n → is_decided s w ≡ true → s p ≡ true → anticommute p.letters w ≡ false
decided-commutes n w s p group size size' decided member =
    elim (or_cases (s (signed w false)) (s (signed w true)) decided) [
      | inl h ↦ group.commuting p (signed w false) (record { size = size'; member = member }) (record { size = size; member = h })
      | inr h ↦ group.commuting p (signed w true) (record { size = size'; member = member }) (record { size = size; member = h })
    ]

decided-none : (n : ℕ) (w : List Letter) (s : State) (p : Signed) → IsGroup n s → length w ≡ n → length p.letters ≡ n → is_decided s w ≡ true → anticommute p.letters w ≡ true → s p ≡ false
decided-none n w s p group size size' decided clash =
    elim (cases_Bool (s p)) [
      | inl h ↦ (let e = decided-commutes n w s p group size size' decided h in cc)
      | inr h ↦ h
    ]

-- no word that anticommutes with the word collapsed is in the state after
pub collapsed-none : (n : ℕ) (w : List Letter) (s : State) (coin : Bool) (p : Signed) → IsGroup n s → length w ≡ n → length p.letters ≡ n → anticommute p.letters w ≡ true → collapsed w coin s p ≡ false
collapsed-none n w s coin p group size size' clash =
    let there = s (product (signed w coin) p) in
    elim (cases_Bool (is_decided s w)) [
      | inl h ↦ ap (λ d. chosen_test d (s p) (anticommute p.letters w) there) h ∙ decided-none n w s p group size size' h clash
      | inr h ↦ ap₂ (λ d x. chosen_test d (s p) x there) h clash
    ]

-- a letter that is I or a clashes with another exactly where that one clashes with a, and it with a's correcting letter
corrected_clash : (x y a : Letter) → is_I a ≡ false → letters_clash x a ≡ false → letters_clash x y ≡ letters_clash y a && letters_clash x (correcting a)
corrected_clash x y a some commutes =
    same_truth-true _ _
    (sym (ap₂ (λ d e. d || (e || same_truth (letters_clash x y) (letters_clash y a && letters_clash x (correcting a)))) some commutes)
    ∙ at_three_letters (λ x y a. is_I a || (letters_clash x a || same_truth (letters_clash x y) (letters_clash y a && letters_clash x (correcting a)))) refl x y a)

reset-signs : (b k seen c e : Bool) → exclusive_or (exclusive_or (b && k) c) (exclusive_or (exclusive_or b seen && k) e) ≡ exclusive_or (seen && k) (exclusive_or c e)
reset-signs b k seen c e =
    same_truth-true _ _
    (at_six_truths
    (λ b k seen c e _. same_truth (exclusive_or (exclusive_or (b && k) c) (exclusive_or (exclusive_or b seen && k) e)) (exclusive_or (seen && k) (exclusive_or c e)))
    refl b k seen c e false)

-- of a word that commutes with the word collapsed
reset-frame : (n q : ℕ) (letter : Letter) (v p : List Letter) → is_I letter ≡ false → q < n → length v ≡ n → length p ≡ n → anticommute p (lone_letter n q letter) ≡ false → anticommute p v ≡ exclusive_or (anticommute v (lone_letter n q letter) && anticommute p (lone_letter n q (correcting letter))) (anticommute p (slice_set v q I))
reset-frame n q letter v p some inside size size' commutes =
    anticommute-parts p v q
    ∙ ap (λ d. exclusive_or d (anticommute p (slice_set v q I)))
    (corrected_clash (letter_at p q) (letter_at v q) letter some (sym (anticommute-lone p n q letter size' inside) ∙ commutes)
    ∙ ap₂ (λ x y. x && y) (sym (anticommute-lone v n q letter size inside)) (sym (anticommute-lone p n q (correcting letter) size' inside)))

-- after a reset the states differ by the frame with the qubit's letter dropped
pub reset-shifted : (n q : ℕ) (letter : Letter) (v : List Letter) (s t : State) (seen coin : Bool)
    → is_I letter ≡ false → q < n → length v ≡ n → IsGroup n s → IsShifted n v s t
    → IsShifted n (slice_set v q I)
    (applied seen (lone_letter n q (correcting letter)) (collapsed (lone_letter n q letter) coin s))
    (applied (exclusive_or (anticommute v (lone_letter n q letter)) seen) (lone_letter n q (correcting letter))
    (collapsed (lone_letter n q letter) (exclusive_or (anticommute v (lone_letter n q letter)) coin) t))
reset-shifted n q letter v s t seen coin some inside size group shifted p size' =
    let w = lone_letter n q letter in
    let b = anticommute v w in
    let k = anticommute p.letters (lone_letter n q (correcting letter)) in
    let c = anticommute p.letters (slice_set v q I) in
    let long : length w ≡ n = length-lone_letter n q letter in
    collapsed-shifted n v w s t coin shifted long (with_sign_changed (exclusive_or b seen && k) p) size'
    ∙ elim (cases_Bool (anticommute p.letters w)) [
      | inl h ↦
          collapsed-none n w s coin (with_sign_changed (anticommute p.letters v) (with_sign_changed (exclusive_or b seen && k) p)) group long size' h
          ∙ sym (collapsed-none n w s coin (with_sign_changed (seen && k) (with_sign_changed c p)) group long size' h)
      | inr h ↦
          ap (λ x. collapsed w coin s (signed p.letters x))
          (ap (λ d. exclusive_or d (exclusive_or (exclusive_or b seen && k) p.negative)) (reset-frame n q letter v p.letters some inside size size' h)
          ∙ reset-signs b k seen c p.negative)
    ]
