-- The laws of signed words. Where words commute, the sign of a product is the sum of their signs and of the sign
-- of the power of i, so products of commuting words are associative and commute.
use Rattle.std.proofs.Common.{◌≡◌, ℕ, Bool, true, false, not, List, length, refl, ap, ap₂, sym, ◌∙◌}
use Rattle.std.proofs.lemmas.Bool.{not-true}
use Rattle.pauli_word.specs.declared.letter.Letter.{Letter}
use Rattle.pauli_word.specs.Letters.{power_product, is_minus, sign_power}
use Rattle.pauli_word.specs.Parity.{exclusive_or}
use Rattle.pauli_word.specs.Words.{Signed, signed, with_sign_changed, letters_product, letters_power, anticommute, product, no_letters}
use Rattle.pauli_word.specs.Groups.{identity_word}
use Rattle.pauli_word.proofs.Parities.{exclusive_or_assoc, exclusive_or_self, exclusive_or_comm, exclusive_or_left_comm, exclusive_or-false, same_truth, same_truth-true, at_six_truths}
use Rattle.pauli_word.proofs.PowerLaws.{is_real, sign_power-is_minus, is_real-sign_power, is_minus-power_product}
use Rattle.pauli_word.proofs.WordLaws.{letters_product_assoc, letters_product_comm, letters_product_self, letters_product_of_none, letters_power_cocycle, letters_power_self, letters_power_of_none, letters_power_swap, is_real-letters_power}

-- where words commute, the power of i of their product is 1 or -1
real_from_commuting : (p q : List Letter) → anticommute p q ≡ false → is_real (letters_power p q) ≡ true
real_from_commuting p q h = is_real-letters_power p q ∙ ap not h

-- so their power is a sign, and where it is one they commute
pub letters_power-commuting : (p q : List Letter) → anticommute p q ≡ false → letters_power p q ≡ sign_power (is_minus (letters_power p q))
letters_power-commuting p q h = sign_power-is_minus (letters_power p q) (real_from_commuting p q h)

pub commuting-from_sign : (p q : List Letter) (negative : Bool) → letters_power p q ≡ sign_power negative → anticommute p q ≡ false
commuting-from_sign p q negative h =
    not-true (anticommute p q) (sym (is_real-letters_power p q) ∙ ap is_real h ∙ is_real-sign_power negative)

-- the signs that the powers of i bring add up alike in both groupings
minus_cocycle : (p q r : List Letter) → length p ≡ length q → length q ≡ length r → anticommute p q ≡ false → anticommute q r ≡ false → exclusive_or (is_minus (letters_power p q)) (is_minus (letters_power (letters_product p q) r)) ≡ exclusive_or (is_minus (letters_power q r)) (is_minus (letters_power p (letters_product q r)))
minus_cocycle p q r h k pq qr =
    sym (is_minus-power_product (letters_power p q) (letters_power (letters_product p q) r) (real_from_commuting p q pq))
    ∙ ap is_minus (letters_power_cocycle p q r h k)
    ∙ is_minus-power_product (letters_power q r) (letters_power p (letters_product q r)) (real_from_commuting q r qr)

regroup_left : (a b c m n : Bool) → exclusive_or (exclusive_or (exclusive_or (exclusive_or a b) m) c) n ≡ exclusive_or (exclusive_or a (exclusive_or b c)) (exclusive_or m n)
regroup_left a b c m n =
    same_truth-true _ _
    (at_six_truths
    (λ a b c m n _. same_truth (exclusive_or (exclusive_or (exclusive_or (exclusive_or a b) m) c) n) (exclusive_or (exclusive_or a (exclusive_or b c)) (exclusive_or m n)))
    refl a b c m n false)

regroup_right : (a b c m n : Bool) → exclusive_or (exclusive_or a (exclusive_or (exclusive_or b c) m)) n ≡ exclusive_or (exclusive_or a (exclusive_or b c)) (exclusive_or m n)
regroup_right a b c m n =
    same_truth-true _ _
    (at_six_truths
    (λ a b c m n _. same_truth (exclusive_or (exclusive_or a (exclusive_or (exclusive_or b c) m)) n) (exclusive_or (exclusive_or a (exclusive_or b c)) (exclusive_or m n)))
    refl a b c m n false)

pub product_assoc : (p q r : Signed) → length p.letters ≡ length q.letters → length q.letters ≡ length r.letters → anticommute p.letters q.letters ≡ false → anticommute q.letters r.letters ≡ false → product (product p q) r ≡ product p (product q r)
product_assoc p q r h k pq qr =
    ap₂ signed (letters_product_assoc p.letters q.letters r.letters)
    (regroup_left p.negative q.negative r.negative (is_minus (letters_power p.letters q.letters)) (is_minus (letters_power (letters_product p.letters q.letters) r.letters))
    ∙ ap (exclusive_or (exclusive_or p.negative (exclusive_or q.negative r.negative))) (minus_cocycle p.letters q.letters r.letters h k pq qr)
    ∙ sym (regroup_right p.negative q.negative r.negative (is_minus (letters_power q.letters r.letters)) (is_minus (letters_power p.letters (letters_product q.letters r.letters)))))

pub product_comm : (p q : Signed) → anticommute p.letters q.letters ≡ false → product p q ≡ product q p
product_comm p q h =
    ap₂ signed (letters_product_comm p.letters q.letters)
    (ap₂ exclusive_or (exclusive_or_comm p.negative q.negative)
    (ap is_minus (letters_power_swap p.letters q.letters ∙ ap (λ s. power_product (sign_power s) (letters_power q.letters p.letters)) h)))

-- a word times itself is the identity
pub product_self : (p : Signed) → product p p ≡ identity_word (length p.letters)
product_self p =
    ap₂ signed (letters_product_self p.letters)
    (ap₂ exclusive_or (exclusive_or_self p.negative) (ap is_minus (letters_power_self p.letters)))

pub product_of_identity : (n : ℕ) (p : Signed) → length p.letters ≡ n → product (identity_word n) p ≡ p
product_of_identity n p h =
    ap₂ signed
    (ap (λ m. letters_product (no_letters m) p.letters) (sym h) ∙ letters_product_of_none p.letters)
    (ap (λ t. exclusive_or p.negative (is_minus t)) (letters_power_of_none n p.letters) ∙ exclusive_or-false p.negative)

-- a changed sign of a factor changes the sign of the product
pub product-sign_changed_left : (b : Bool) (p q : Signed) → product (with_sign_changed b p) q ≡ with_sign_changed b (product p q)
product-sign_changed_left b p q =
    ap (signed (letters_product p.letters q.letters))
    (ap (λ t. exclusive_or t (is_minus (letters_power p.letters q.letters))) (exclusive_or_assoc b p.negative q.negative)
    ∙ exclusive_or_assoc b (exclusive_or p.negative q.negative) (is_minus (letters_power p.letters q.letters)))

pub product-sign_changed_right : (b : Bool) (p q : Signed) → product p (with_sign_changed b q) ≡ with_sign_changed b (product p q)
product-sign_changed_right b p q =
    ap (signed (letters_product p.letters q.letters))
    (ap (λ t. exclusive_or t (is_minus (letters_power p.letters q.letters))) (exclusive_or_left_comm p.negative b q.negative)
    ∙ exclusive_or_assoc b (exclusive_or p.negative q.negative) (is_minus (letters_power p.letters q.letters)))
