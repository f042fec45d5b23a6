-- Products of signed words that may anticommute. `product` keeps of a power of i only whether it is 1 or i, or -1 or -i;
-- what it drops is known from what anticommutes, so products regroup and swap up to a sign that is known.
use Rattle.std.proofs.Common.{◌≡◌, Bool, true, false, not, ◌&&◌, List, length, refl, ap, ap₂, sym, ◌∙◌}
use Rattle.pauli_word.specs.declared.letter.Letter.{Letter}
use Rattle.pauli_word.specs.Letters.{Power, one, i, minus_one, minus_i, power_product, is_minus}
use Rattle.pauli_word.specs.Parity.{exclusive_or}
use Rattle.pauli_word.specs.Words.{Signed, letters_product, letters_power, anticommute, product, signed, with_sign_changed}
use Rattle.pauli_word.proofs.Parities.{same_truth, same_truth-true, at_four_truths, at_six_truths}
use Rattle.pauli_word.proofs.PowerLaws.{is_real}
use Rattle.pauli_word.proofs.WordLaws.{letters_product_assoc, letters_product_comm, letters_power_cocycle, letters_power_swap, is_real-letters_power, anticommute_comm, anticommute-product}
use Rattle.gate_table.proofs.WordImageLaws.{is_minus-sign_power}

-- minus signs add up, with one more where both powers are i or -i
is_minus-powers : (p q : Power) → is_minus (power_product p q) ≡ exclusive_or (exclusive_or (is_minus p) (is_minus q)) (not (is_real p) && not (is_real q))
is_minus-powers one one = refl
is_minus-powers one i = refl
is_minus-powers one minus_one = refl
is_minus-powers one minus_i = refl
is_minus-powers i one = refl
is_minus-powers i i = refl
is_minus-powers i minus_one = refl
is_minus-powers i minus_i = refl
is_minus-powers minus_one one = refl
is_minus-powers minus_one i = refl
is_minus-powers minus_one minus_one = refl
is_minus-powers minus_one minus_i = refl
is_minus-powers minus_i one = refl
is_minus-powers minus_i i = refl
is_minus-powers minus_i minus_one = refl
is_minus-powers minus_i minus_i = refl

not-not : (a : Bool) → not (not a) ≡ a
not-not false = refl
not-not true = refl

-- whether the product of two words brings a minus
abbrev minus : List Letter → List Letter → Bool
minus p q = is_minus (letters_power p q)

imaginary : (p q : List Letter) → not (is_real (letters_power p q)) ≡ anticommute p q
imaginary p q = ap not (is_real-letters_power p q) ∙ not-not (anticommute p q)

minus-powers : (p q r t : List Letter) → is_minus (power_product (letters_power p q) (letters_power r t)) ≡ exclusive_or (exclusive_or (minus p q) (minus r t)) (anticommute p q && anticommute r t)
minus-powers p q r t =
    is_minus-powers (letters_power p q) (letters_power r t)
    ∙ ap₂ (λ a b. exclusive_or (exclusive_or (minus p q) (minus r t)) (a && b)) (imaginary p q) (imaginary r t)

cancelled : (u a : Bool) → exclusive_or (exclusive_or u a) a ≡ u
cancelled u a =
    same_truth-true _ _ (at_four_truths (λ u a _ _. same_truth (exclusive_or (exclusive_or u a) a) u) refl u a false false)

moved_over : (u v a b : Bool) → exclusive_or u a ≡ exclusive_or v b → u ≡ exclusive_or (exclusive_or a b) v
moved_over u v a b h =
    sym (cancelled u a)
    ∙ (ap (λ t. exclusive_or t a) h
    ∙ same_truth-true _ _ (at_four_truths (λ v a b _. same_truth (exclusive_or (exclusive_or v b) a) (exclusive_or (exclusive_or a b) v)) refl v a b false))

clashes_met : (pq pr qr : Bool) → exclusive_or (pq && exclusive_or pr qr) (qr && exclusive_or pq pr) ≡ (pr && exclusive_or pq qr)
clashes_met pq pr qr =
    same_truth-true _ _
    (at_four_truths (λ pq pr qr _. same_truth (exclusive_or (pq && exclusive_or pr qr) (qr && exclusive_or pq pr)) (pr && exclusive_or pq qr)) refl pq pr qr false)

-- the signs that the powers of i bring in the two groupings
minus_regrouped : (p q r : List Letter) → length p ≡ length q → length q ≡ length r → exclusive_or (minus p q) (minus (letters_product p q) r) ≡ exclusive_or (anticommute p r && exclusive_or (anticommute p q) (anticommute q r)) (exclusive_or (minus q r) (minus p (letters_product q r)))
minus_regrouped p q r h k =
    let over_left : anticommute (letters_product p q) r ≡ exclusive_or (anticommute p r) (anticommute q r) = anticommute-product p q r h in
    let over_right : anticommute p (letters_product q r) ≡ exclusive_or (anticommute p q) (anticommute p r) =
    anticommute_comm p (letters_product q r)
    ∙ (anticommute-product q r p k ∙ ap₂ exclusive_or (anticommute_comm q p) (anticommute_comm r p)) in
    let both =
    ap (λ t. exclusive_or (exclusive_or (minus p q) (minus (letters_product p q) r)) (anticommute p q && t)) (sym over_left)
    ∙ (sym (minus-powers p q (letters_product p q) r)
    ∙ (ap is_minus (letters_power_cocycle p q r h k)
    ∙ (minus-powers q r p (letters_product q r)
    ∙ ap (λ t. exclusive_or (exclusive_or (minus q r) (minus p (letters_product q r))) (anticommute q r && t)) over_right))) in
    moved_over (exclusive_or (minus p q) (minus (letters_product p q) r)) (exclusive_or (minus q r) (minus p (letters_product q r))) _ _ both
    ∙ ap (λ t. exclusive_or t (exclusive_or (minus q r) (minus p (letters_product q r)))) (clashes_met (anticommute p q) (anticommute p r) (anticommute q r))

regroup_left : (a b c m n : Bool) → exclusive_or (exclusive_or (exclusive_or (exclusive_or a b) m) c) n ≡ exclusive_or (exclusive_or a (exclusive_or b c)) (exclusive_or m n)
regroup_left a b c m n =
    same_truth-true _ _
    (at_six_truths
    (λ a b c m n _. same_truth (exclusive_or (exclusive_or (exclusive_or (exclusive_or a b) m) c) n) (exclusive_or (exclusive_or a (exclusive_or b c)) (exclusive_or m n)))
    refl a b c m n false)

regroup_right : (a b c m n t : Bool) → exclusive_or (exclusive_or a (exclusive_or b c)) (exclusive_or t (exclusive_or m n)) ≡ exclusive_or t (exclusive_or (exclusive_or a (exclusive_or (exclusive_or b c) m)) n)
regroup_right a b c m n t =
    same_truth-true _ _
    (at_six_truths
    (λ a b c m n t. same_truth (exclusive_or (exclusive_or a (exclusive_or b c)) (exclusive_or t (exclusive_or m n))) (exclusive_or t (exclusive_or (exclusive_or a (exclusive_or (exclusive_or b c) m)) n)))
    refl a b c m n t)

pub product_regrouped : (p q r : Signed) → length p.letters ≡ length q.letters → length q.letters ≡ length r.letters → product (product p q) r ≡ with_sign_changed (anticommute p.letters r.letters && exclusive_or (anticommute p.letters q.letters) (anticommute q.letters r.letters)) (product p (product q r))
product_regrouped p q r h k =
    ap₂ signed (letters_product_assoc p.letters q.letters r.letters)
    (regroup_left p.negative q.negative r.negative (minus p.letters q.letters) (minus (letters_product p.letters q.letters) r.letters)
    ∙ (ap (exclusive_or (exclusive_or p.negative (exclusive_or q.negative r.negative))) (minus_regrouped p.letters q.letters r.letters h k)
    ∙ regroup_right p.negative q.negative r.negative (minus q.letters r.letters) (minus p.letters (letters_product q.letters r.letters)) (anticommute p.letters r.letters && exclusive_or (anticommute p.letters q.letters) (anticommute q.letters r.letters))))

swapped : (a b t m : Bool) → exclusive_or (exclusive_or a b) (exclusive_or t m) ≡ exclusive_or t (exclusive_or (exclusive_or b a) m)
swapped a b t m =
    same_truth-true _ _
    (at_four_truths (λ a b t m. same_truth (exclusive_or (exclusive_or a b) (exclusive_or t m)) (exclusive_or t (exclusive_or (exclusive_or b a) m))) refl a b t m)

pub product_swapped : (p q : Signed) → product p q ≡ with_sign_changed (anticommute p.letters q.letters) (product q p)
product_swapped p q =
    ap₂ signed (letters_product_comm p.letters q.letters)
    (ap (exclusive_or (exclusive_or p.negative q.negative)) (ap is_minus (letters_power_swap p.letters q.letters) ∙ is_minus-sign_power (anticommute p.letters q.letters) (letters_power q.letters p.letters))
    ∙ swapped p.negative q.negative (anticommute p.letters q.letters) (minus q.letters p.letters))
