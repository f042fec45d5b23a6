-- What is asked of products target by target is what is asked of each product by itself.
use Rattle.std.proofs.Common.{◌≡◌, ℕ, Bool, false, ◌||◌, ◌&&◌, List, [], ◌∷◌, get_or, refl, sym, ap, ap₂, ◌∙◌}
use Rattle.std.specs.List.{list_any, onto_first}
use Rattle.std.proofs.Math.Bool.{or_assoc}
use Rattle.pauli_word.specs.declared.letter.Letter.{Letter}
use Rattle.stim_parser.specs.declared.target.Target.{Target}
use Rattle.stim_parser.specs.declared.target.Target.TheVariants.{Pauli, Star}
use Rattle.stim_parser.specs.Limits.{are_products, is_same_factor, names_twice, products_of}
use Rattle.stim_parser.specs.Products.{are_factors, goes_on_with, has_product_of_one, is_factor, is_factor_at, is_joining, names_again}

-- ---- factors and stars

pub products-first : (t : Target) (rest : List Target) → are_products (t ∷ rest) ≡ (is_factor t && are_factors rest)
products-first (Pauli inverted l q) [] = refl
products-first (Pauli inverted l q) (Star ∷ []) = refl
products-first (Pauli inverted l q) (Star ∷ Pauli other k p ∷ us) = products-first (Pauli other k p) us
products-first (Pauli inverted l q) (Star ∷ u ∷ us) = refl
products-first (Pauli inverted l q) (Pauli other k p ∷ us) = products-first (Pauli other k p) us
products-first (Pauli inverted l q) (u ∷ us) = refl
products-first t rest = refl

-- ---- the first of products

abbrev pub first_product : List (List Target) → List Target
first_product products = get_or products 0 []

pub first-onto : (t : Target) (products : List (List Target)) → first_product (onto_first t products) ≡ t ∷ first_product products
first-onto t [] = refl
first-onto t (product ∷ products) = refl

same-at : (inverted : Bool) (l : Letter) (q : ℕ) (t : Target) → is_same_factor (Pauli inverted l q) t ≡ is_factor_at q t
same-at inverted l q (Pauli other k p) = refl
same-at inverted l q t = refl

ended : (q : ℕ) (t : Target) (rest : List Target) → is_joining t ≡ false → goes_on_with q (t ∷ rest) ≡ false
ended q t [] e = refl
ended q t (u ∷ us) e = rw e refl

goes_on : (inverted : Bool) (l : Letter) (q : ℕ) (rest : List Target) → goes_on_with q (Star ∷ rest) ≡ list_any (is_same_factor (Pauli inverted l q)) (first_product (products_of rest))
goes_on inverted l q [] = refl
goes_on inverted l q (u ∷ []) = ap (λ b. b || false) (sym (same-at inverted l q u))
goes_on inverted l q (u ∷ Star ∷ us) =
    ap₂ (λ a b. a || b) (sym (same-at inverted l q u)) (goes_on inverted l q us)
    ∙ sym (ap (list_any (is_same_factor (Pauli inverted l q))) (first-onto u (products_of us)))
goes_on inverted l q (u ∷ v ∷ us) = ap₂ (λ a b. a || b) (sym (same-at inverted l q u)) (ended q v us refl)

never_same : (t : Target) (us : List Target) → is_factor t ≡ false → list_any (is_same_factor t) us ≡ false
never_same (Pauli inverted l q) us e = absurd cc
never_same t [] e = refl
never_same t (u ∷ us) e = never_same t us e

again : (t : Target) (rest : List Target) → names_again t (Star ∷ rest) ≡ list_any (is_same_factor t) (first_product (products_of rest))
again (Pauli inverted l q) rest = goes_on inverted l q rest
again t rest = sym (never_same t (first_product (products_of rest)) refl)

no_more : (t u : Target) (us : List Target) → is_joining u ≡ false → names_again t (u ∷ us) ≡ false
no_more (Pauli inverted l q) u us e = ended q u us e
no_more t u us e = refl

-- ---- products that name one qubit twice

twice-onto : (t : Target) (products : List (List Target)) → list_any names_twice (onto_first t products) ≡ (list_any (is_same_factor t) (first_product products) || list_any names_twice products)
twice-onto t [] = refl
twice-onto t (product ∷ products) = or_assoc (list_any (is_same_factor t) product) (names_twice product) (list_any names_twice products)

twice-from : (t : Target) (ts : List Target) → list_any names_twice (products_of (t ∷ ts)) ≡ has_product_of_one (t ∷ ts)
twice-from (Pauli inverted l q) [] = refl
twice-from t [] = refl
twice-from t (Star ∷ []) = twice-onto t [] ∙ ap (λ b. b || false) (sym (again t []))
twice-from t (Star ∷ u ∷ us) = twice-onto t (products_of (u ∷ us)) ∙ ap₂ (λ a b. a || b) (sym (again t (u ∷ us))) (twice-from u us)
twice-from t (u ∷ us) = ap₂ (λ a b. a || b) (sym (no_more t u us refl)) (twice-from u us)

pub twice : (ts : List Target) → list_any names_twice (products_of ts) ≡ has_product_of_one ts
twice [] = refl
twice (t ∷ ts) = twice-from t ts
