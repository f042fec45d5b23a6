-- A word of the state that commutes with a collapsed word, through the collapse and through a reset: where it
-- brings the collapsed word as a factor, the outcome and the product's own sign go into its sign.
use Rattle.std.proofs.Common.{◌≡◌, ◌⊎◌, inl, inr, ℕ, ◌<◌, Bool, true, false, not, cond, ◌&&◌, ◌||◌, List, length, set, refl, ap, ap₂, sym, ◌∙◌, length-set}
use Rattle.std.proofs.lemmas.Bool.{and_from, and_right, or_left, or_right}
use Rattle.std.proofs.lemmas.List.{set-get_or}
use Rattle.pauli_word.specs.declared.letter.Letter.{Letter}
use Rattle.pauli_word.specs.declared.letter.Letter.TheVariants.{I, X, Y, Z}
use Rattle.pauli_word.specs.Letters.{power_product, is_minus, letters_clash}
use Rattle.pauli_word.specs.Parity.{exclusive_or}
use Rattle.pauli_word.specs.Words.{Signed, letters_product, letters_power, anticommute, product, no_letters, letter_at, lone_letter, signed}
use Rattle.pauli_word.proofs.Parities.{exclusive_or-false, exclusive_or_assoc, exclusive_or_comm, exclusive_or_left_comm}
use Rattle.pauli_word.proofs.PowerLaws.{is_minus-power_product}
use Rattle.pauli_word.proofs.LetterLaws.{letters_clash_comm, letters_clash_of_I}
use Rattle.pauli_word.proofs.WordLaws.{length-letters_product, letters_product_assoc, letters_product_self, letters_power_cocycle, letters_power_self, letters_power_of_none, is_real-letters_power, anticommute_comm, anticommute_self, anticommute-product}
use Rattle.pauli_word.proofs.SignedLaws.{product_self}
use Rattle.pauli_word.specs.States.{State, applied, is_decided, outcome, collapsed, correcting}
use Rattle.pauli_word.specs.Groups.{IsGroup, identity_word}
use Rattle.step_model.specs.Sensitivities.{multiplied}
use Rattle.step_model.specs.Listing.{is_I}
use Rattle.pauli_word.proofs.LoneLetters.{length-lone_letter, letters_product_of_no_letters, anticommute-lone_letter, letters_product-cleared, letters_power-cleared}

-- the collapsed word, with the outcome as its sign, is in the state after its collapse
pub seen_after : (n : ℕ) (s : State) (w : List Letter) (coin : Bool) → IsGroup n s → length w ≡ n → collapsed w coin s (signed w (outcome s w coin)) ≡ true
seen_after n s w coin g h = by_cases (s (signed w false)) (s (signed w true)) refl refl
  where
    identity : s (product (signed w coin) (signed w coin)) ≡ true
    identity = ap s (product_self (signed w coin)) ∙ ap (λ m. s (identity_word m)) h ∙ g.identity

    by_cases : (plus minus : Bool) → s (signed w false) ≡ plus → s (signed w true) ≡ minus
        → cond (plus || minus)
        (s (signed w (cond plus false (cond minus true coin))))
        (not (anticommute w w) && (s (signed w (cond plus false (cond minus true coin))) || s (product (signed w coin) (signed w (cond plus false (cond minus true coin))))))
        ≡ true
    by_cases true minus p m = p
    by_cases false true p m = m
    by_cases false false p m =
        and_from (not (anticommute w w)) (s (signed w coin) || s (product (signed w coin) (signed w coin))) (ap not (anticommute_self w))
        (or_right (s (signed w coin)) (s (product (signed w coin) (signed w coin))) identity)

-- a word of the state that commutes with the collapsed word stays in it
pub kept_after : (s : State) (w : List Letter) (coin : Bool) (p : Signed) → anticommute p.letters w ≡ false → s p ≡ true → collapsed w coin s p ≡ true
kept_after s w coin p h m = by_cases (is_decided s w)
  where
    by_cases : (decided : Bool) → cond decided (s p) (not (anticommute p.letters w) && (s p || s (product (signed w coin) p))) ≡ true
    by_cases true = m
    by_cases false =
        and_from (not (anticommute p.letters w)) (s p || s (product (signed w coin) p)) (ap not h)
        (or_left (s p) (s (product (signed w coin) p)) m)

equal_from_sum : (a b : Bool) → exclusive_or a b ≡ false → b ≡ a
equal_from_sum false false h = refl
equal_from_sum true true h = refl
equal_from_sum a b h = cc

-- w times w times v is v
twice : (n : ℕ) (w v : List Letter) → length w ≡ n → length v ≡ n → letters_product w (letters_product w v) ≡ v
twice n w v h k =
    sym (letters_product_assoc w w v)
    ∙ ap (λ x. letters_product x v) (letters_product_self w ∙ ap no_letters h)
    ∙ letters_product_of_no_letters n v k

-- and the second product brings the sign that the first does
twice_sign : (n : ℕ) (w v : List Letter) → length w ≡ n → length v ≡ n → anticommute w v ≡ false → is_minus (letters_power w (letters_product w v)) ≡ is_minus (letters_power w v)
twice_sign n w v h k c =
    equal_from_sum (is_minus (letters_power w v)) (is_minus (letters_power w (letters_product w v)))
    (sym (is_minus-power_product (letters_power w v) (letters_power w (letters_product w v)) (is_real-letters_power w v ∙ ap not c))
    ∙ ap is_minus
    (sym (letters_power_cocycle w w v refl (h ∙ sym k))
    ∙ ap₂ power_product (letters_power_self w) (ap (λ x. letters_power x v) (letters_product_self w) ∙ letters_power_of_none (length w) v)))

-- the sign of v where w times v is in a state with the sign b and w with the sign seen
abbrev pub divided_sign : List Letter → List Letter → Bool → Bool → Bool
divided_sign w v seen b = exclusive_or seen (exclusive_or b (is_minus (letters_power w v)))

pub divided : (n : ℕ) (t : State) (w v : List Letter) (seen b : Bool) → IsGroup n t → length w ≡ n → length v ≡ n → anticommute w v ≡ false → t (signed w seen) ≡ true → t (signed (letters_product w v) b) ≡ true → t (signed v (divided_sign w v seen b)) ≡ true
divided n t w v seen b g h k c p q =
    ap t (sym quotient)
    ∙ g.closed (signed w seen) (signed (letters_product w v) b)
    (record { size = h; member = p })
    (record { size = length-letters_product w v (h ∙ sym k) ∙ h; member = q })
  where
    quotient : product (signed w seen) (signed (letters_product w v) b) ≡ signed v (divided_sign w v seen b)
    quotient =
        ap₂ signed (twice n w v h k)
        (ap (exclusive_or (exclusive_or seen b)) (twice_sign n w v h k c) ∙ exclusive_or_assoc seen b (is_minus (letters_power w v)))

-- a word that a target's sensitivity is before a collapse commutes with the collapsed word
commutes : (w v : List Letter) (counts : Bool) → length w ≡ length v → anticommute w v ≡ false → anticommute (multiplied counts w v) w ≡ false
commutes w v false h c = anticommute_comm v w ∙ c
commutes w v true h c =
    anticommute-product w v w h ∙ ap₂ exclusive_or (anticommute_self w) (anticommute_comm v w ∙ c)

-- what a collapse changes in the sign
abbrev pub change_at : Bool → List Letter → List Letter → Bool → Bool
change_at counts w v seen = counts && exclusive_or (is_minus (letters_power w v)) seen

regroup : (seen b m : Bool) → exclusive_or seen (exclusive_or b m) ≡ exclusive_or b (exclusive_or m seen)
regroup seen b m = exclusive_or_left_comm seen b m ∙ ap (exclusive_or b) (exclusive_or_comm seen m)

pub through_collapse : (n : ℕ) (s : State) (w v : List Letter) (counts coin b : Bool) → IsGroup n s → IsGroup n (collapsed w coin s) → length w ≡ n → length v ≡ n → anticommute w v ≡ false → s (signed (multiplied counts w v) b) ≡ true → collapsed w coin s (signed v (exclusive_or b (change_at counts w v (outcome s w coin)))) ≡ true
through_collapse n s w v counts coin b g after h k c m =
    from_kept counts (kept_after s w coin (signed (multiplied counts w v) b) (commutes w v counts (h ∙ sym k) c) m)
  where
    from_kept : (counts : Bool) → collapsed w coin s (signed (multiplied counts w v) b) ≡ true → collapsed w coin s (signed v (exclusive_or b (change_at counts w v (outcome s w coin)))) ≡ true
    from_kept false kept = ap (λ x. collapsed w coin s (signed v x)) (exclusive_or-false b) ∙ kept
    from_kept true kept =
        ap (λ x. collapsed w coin s (signed v x)) (sym (regroup (outcome s w coin) b (is_minus (letters_power w v))))
        ∙ divided n (collapsed w coin s) w v (outcome s w coin) b after h k c (seen_after n s w coin g h) kept

-- letters that don't clash with a letter other than I are I and itself
only_two : (a b : Letter) → is_I a ≡ false → letters_clash a b ≡ false → (b ≡ I) ⊎ (b ≡ a)
only_two I b h c = cc
only_two X I h c = inl refl
only_two X X h c = inr refl
only_two X b h c = cc
only_two Y I h c = inl refl
only_two Y Y h c = inr refl
only_two Y b h c = cc
only_two Z I h c = inl refl
only_two Z Z h c = inr refl
only_two Z b h c = cc

correcting_clashes : (a : Letter) → is_I a ≡ false → letters_clash (correcting a) a ≡ true
correcting_clashes I h = cc
correcting_clashes X h = refl
correcting_clashes Y h = refl
correcting_clashes Z h = refl

and-true : (b : Bool) → (b && true) ≡ b
and-true true = refl
and-true false = refl

-- a word whose letter at the qubit of a reset is I or the letter measured there keeps the sign it has when cleared
pub through_reset : (n : ℕ) (t : State) (q : ℕ) (a : Letter) (w : List Letter) (seen b : Bool) → IsGroup n t → is_I a ≡ false → q < n → length w ≡ n → anticommute (lone_letter n q a) w ≡ false → t (signed (lone_letter n q a) seen) ≡ true → t (signed (set w q I) b) ≡ true → applied seen (lone_letter n q (correcting a)) t (signed w b) ≡ true
through_reset n t q a w seen b g i k h c p m = by_letter (only_two a (letter_at w q) i (sym (anticommute-lone_letter n w q a h k) ∙ c))
  where
    -- whether the correction changes the sign
    turns : anticommute w (lone_letter n q (correcting a)) ≡ letters_clash (correcting a) (letter_at w q)
    turns = anticommute_comm w (lone_letter n q (correcting a)) ∙ anticommute-lone_letter n w q (correcting a) h k

    back : (x : Letter) → letter_at w q ≡ x → set w q x ≡ w
    back x e = ap (set w q) (sym e) ∙ set-get_or w q I

    restored : letter_at w q ≡ a → product (signed (lone_letter n q a) seen) (signed (set w q I) b) ≡ signed w (exclusive_or seen b)
    restored e =
        ap₂ signed (letters_product-cleared n w q a h k ∙ back a e)
        (ap (λ x. exclusive_or (exclusive_or seen b) (is_minus x)) (letters_power-cleared n w q a h k) ∙ exclusive_or-false (exclusive_or seen b))

    by_letter : (letter_at w q ≡ I) ⊎ (letter_at w q ≡ a) → applied seen (lone_letter n q (correcting a)) t (signed w b) ≡ true
    by_letter (inl e) =
        ap (λ x. t (signed w (exclusive_or x b)))
        (and_right seen (anticommute w (lone_letter n q (correcting a))) (turns ∙ ap (letters_clash (correcting a)) e ∙ letters_clash_comm (correcting a) I ∙ letters_clash_of_I (correcting a)))
        ∙ ap (λ x. t (signed x b)) (sym (back I e))
        ∙ m
    by_letter (inr e) =
        ap (λ x. t (signed w (exclusive_or (seen && x) b))) (turns ∙ ap (letters_clash (correcting a)) e ∙ correcting_clashes a i)
        ∙ ap (λ x. t (signed w (exclusive_or x b))) (and-true seen)
        ∙ ap t (sym (restored e))
        ∙ g.closed (signed (lone_letter n q a) seen) (signed (set w q I) b)
        (record { size = length-lone_letter n q a; member = p })
        (record { size = length-set w q I ∙ h; member = m })
