-- Texts that are compared by pieces.
use Rattle.std.proofs.Common.{◌≡◌, ℕ, zero, suc, ◌+◌, ◌≤◌, List, [], ◌∷◌, ◌++◌, take, drop, refl, ap, ap₂, sym, ◌∙◌, arith}
use Rattle.std.proofs.Math.Seq.{take-add}
use Rattle.std.proofs.lemmas.List.{take-append-drop}

-- one piece more
pub same-more : (n k : ℕ) (xs ys : List ℕ) → take n xs ≡ take n ys → take k (drop n xs) ≡ take k (drop n ys) → take (n + k) xs ≡ take (n + k) ys
same-more n k xs ys front piece =
    take-add n k xs ∙ ap₂ (λ (us vs : List ℕ). us ++ vs) front piece ∙ sym (take-add n k ys)

take-less : (n p : ℕ) (xs : List ℕ) → n ≤ p → take n (take p xs) ≡ take n xs
take-less zero p xs h = refl
take-less (suc n) zero xs h = absurd (omega (arith, h))
take-less (suc n) (suc p) [] h = refl
take-less (suc n) (suc p) (x ∷ xs) h = ap (λ (us : List ℕ). x ∷ us) (take-less n p xs (omega (arith, h)))

-- a last piece, which may begin among those before it
pub same-all : (n p : ℕ) (xs ys : List ℕ) → n ≤ p → take p xs ≡ take p ys → drop n xs ≡ drop n ys → xs ≡ ys
same-all n p xs ys within front last =
    let fewer : take n xs ≡ take n ys = sym (take-less n p xs within) ∙ ap (take n) front ∙ take-less n p ys within in
    sym (take-append-drop n xs) ∙ ap₂ (λ (us vs : List ℕ). us ++ vs) fewer last ∙ take-append-drop n ys
