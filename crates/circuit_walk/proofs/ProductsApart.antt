-- The products of factors that stars join: each begins with a letter other than I, at whose qubit no other of its letters
-- stands, where none names a qubit twice.
use Rattle.std.proofs.Common.{◌≡◌, ◌≢◌, ℕ, ◌<◌, ◌≤◌, ◌==◌, ◌&&◌, ◌||◌, Bool, true, false, not, List, [], ◌∷◌, length, map, refl, sym, ap, ◌∙◌, arith}
use Rattle.std.specs.Prelude.{All}
use Rattle.std.specs.List.{list_all, list_any, onto_first}
use Rattle.std.proofs.lemmas.Bool.{and_from, and_parts, eqb-false, not-true, or_left, or_parts, not_from_false}
use Rattle.std.proofs.lemmas.List.Elements.{All-cons, All-head, All-nil, All-tail}
use Rattle.step_model.specs.declared.step.Term.{Term}
use Rattle.step_model.specs.Listing.{is_I}
use Rattle.stim_parser.specs.declared.target.Target.{Target}
use Rattle.stim_parser.specs.declared.target.Target.TheVariants.{Pauli, Star}
use Rattle.stim_parser.specs.Circuits.{target_is_written}
use Rattle.stim_parser.specs.Products.{are_factors, begins_with_factor, goes_on_with, has_product_of_one, is_factor, is_factor_at, is_joining, names_again}
use Rattle.stim_parser.specs.Limits.{are_products, names_twice, products_of, qubit_of}
use Rattle.stim_parser.proofs.ProductWords.{first-onto, first_product, products-first, twice}
use Rattle.circuit_walk.specs.Targets.{pauli_letter, term_of}
use Rattle.circuit_walk.specs.Totals.{qubits_to}
use Rattle.circuit_walk.proofs.TargetQubits.{qubits_named}
use Rattle.circuit_walk.proofs.WordsApart.{BeginsApart}

-- ---- where there is a factor there is a product

onto_some : (t : Target) (ps : List (List Target)) → 0 < length (onto_first t ps)
onto_some t [] = omega arith
onto_some t (p ∷ ps) = omega arith

some_product : (t : Target) (ts : List Target) → 0 < length (products_of (t ∷ ts))
some_product t [] = omega arith
some_product t (Star ∷ ts) = onto_some t (products_of ts)
some_product t (u ∷ ts) = omega arith

-- ---- one product

-- factors on so many qubits, of which the first stands apart
pub record IsProduct (n : ℕ) (product : List Target) : Type 0 where
  pub factors : list_all is_factor product ≡ true
  pub within : qubits_named product ≤ n
  pub apart : BeginsApart (map term_of product)

-- a factor that may be the first of a product
record IsFirst (n : ℕ) (t : Target) : Type 0 where
  pub factor : is_factor t ≡ true
  pub within : qubits_to t ≤ n
  pub letter : is_I (pauli_letter t) ≡ false

alone : (n : ℕ) (t : Target) → IsFirst n t → IsProduct n (t ∷ [])
alone n t h =
    record {
      factors = and_from (is_factor t) true h.factor refl;
      within = omega (arith, h.within);
      apart = record { letter = h.letter; alone = All-nil (λ (term : Term). term.qubit ≢ qubit_of t) };
    }

-- no factor is at this qubit
abbrev is_away : ℕ → Target → Bool
is_away q t = not (is_factor_at q t)

away_at : (q : ℕ) (t : Target) → is_factor t ≡ true → is_away q t ≡ true → (term_of t).qubit ≢ q
away_at q (Pauli inverted l p) h k = λ e. eqb-false q p (not-true (q == p) k) (sym e)
away_at q t h k = absurd cc

away : (q : ℕ) (ts : List Target) → list_all is_factor ts ≡ true → list_all (is_away q) ts ≡ true → All (λ (term : Term). term.qubit ≢ q) (map term_of ts)
away q [] h k = All-nil (λ (term : Term). term.qubit ≢ q)
away q (t ∷ ts) h k =
    let factors = and_parts (is_factor t) (list_all is_factor ts) h in
    let others = and_parts (is_away q t) (list_all (is_away q) ts) k in
    All-cons (λ (term : Term). term.qubit ≢ q) (term_of t) (map term_of ts) (away_at q t factors.0 others.0) (away q ts factors.1 others.1)

joined : (n : ℕ) (t : Target) (product : List Target) → IsFirst n t → IsProduct n product → list_all (is_away (qubit_of t)) product ≡ true → IsProduct n (t ∷ product)
joined n t product h k others =
    record {
      factors = and_from (is_factor t) (list_all is_factor product) h.factor k.factors;
      within = omega (arith, h.within, k.within);
      apart = record { letter = h.letter; alone = away (qubit_of t) product k.factors others };
    }

-- ---- the first of products

onto_products : (n : ℕ) (t : Target) (products : List (List Target)) → IsFirst n t → 0 < length products → All (IsProduct n) products → list_all (is_away (qubit_of t)) (first_product products) ≡ true → All (IsProduct n) (onto_first t products)
onto_products n t [] h some all others = absurd (omega (arith, some))
onto_products n t (product ∷ products) h some all others =
    All-cons (IsProduct n) (t ∷ product) products (joined n t product h (All-head (IsProduct n) product products all) others)
    (All-tail (IsProduct n) product products all)

-- a product that doesn't go on with a qubit has no factor at it
goes_on_away : (q : ℕ) (u : Target) (us : List Target) → goes_on_with q (Star ∷ u ∷ us) ≡ false → list_all (is_away q) (first_product (products_of (u ∷ us))) ≡ true
goes_on_away q u [] h = rw ((or_parts (is_factor_at q u) false h).0) refl
goes_on_away q u (Star ∷ []) h = rw ((or_parts (is_factor_at q u) false h).0) refl
goes_on_away q u (Star ∷ v ∷ vs) h =
    let parts = or_parts (is_factor_at q u) (goes_on_with q (Star ∷ v ∷ vs)) h in
    ap (list_all (is_away q)) (first-onto u (products_of (v ∷ vs)))
    ∙ and_from (is_away q u) (list_all (is_away q) (first_product (products_of (v ∷ vs)))) (not_from_false (is_factor_at q u) parts.0) (goes_on_away q v vs parts.1)
goes_on_away q u (w ∷ vs) h = rw ((or_parts (is_factor_at q u) (goes_on_with q (w ∷ vs)) h).0) refl

-- ---- products

record AreProducts (n : ℕ) (ts : List Target) : Type 0 where
  pub begins : begins_with_factor ts ≡ true
  pub factors : are_factors ts ≡ true
  pub different : has_product_of_one ts ≡ false
  pub written : list_all target_is_written ts ≡ true
  pub within : qubits_named ts ≤ n

letter_written : (t : Target) → is_factor t ≡ true → target_is_written t ≡ true → is_I (pauli_letter t) ≡ false
letter_written (Pauli inverted l q) h k = not-true (is_I l) k
letter_written t h k = absurd cc

begins_first : (n : ℕ) (t : Target) (ts : List Target) → AreProducts n (t ∷ ts) → IsFirst n t
begins_first n t ts h =
    record {
      factor = h.begins;
      within = omega (arith, h.within);
      letter = letter_written t h.begins (and_parts (target_is_written t) (list_all target_is_written ts) h.written).0;
    }

next_product : (n : ℕ) (t u : Target) (us : List Target) → AreProducts n (t ∷ u ∷ us) → is_factor u ≡ true → AreProducts n (u ∷ us)
next_product n t u us h factor =
    record {
      begins = factor;
      factors = (and_parts (is_factor t || (is_joining t && is_factor u)) (are_factors (u ∷ us)) h.factors).1;
      different = (or_parts (names_again t (u ∷ us)) (has_product_of_one (u ∷ us)) h.different).1;
      written = (and_parts (target_is_written t) (list_all target_is_written (u ∷ us)) h.written).1;
      within = omega (arith, h.within);
    }

next_factor : (n : ℕ) (t u : Target) (us : List Target) → AreProducts n (t ∷ Star ∷ u ∷ us) → AreProducts n (u ∷ us)
next_factor n t u us h =
    let behind = and_parts (is_factor t || (is_joining t && false)) (are_factors (Star ∷ u ∷ us)) h.factors in
    let parts = and_parts (is_factor u) (are_factors (u ∷ us)) behind.1 in
    record {
      begins = parts.0;
      factors = parts.1;
      different = (or_parts (names_again t (Star ∷ u ∷ us)) (has_product_of_one (u ∷ us)) h.different).1;
      written = (and_parts (target_is_written t) (list_all target_is_written (u ∷ us)) h.written).1;
      within = omega (arith, h.within);
    }

names_no_more : (t : Target) (rest : List Target) → is_factor t ≡ true → names_again t rest ≡ false → goes_on_with (qubit_of t) rest ≡ false
names_no_more (Pauli inverted l q) rest h k = k
names_no_more t rest h k = absurd cc

no_factors : (t : Target) (rest : List Target) (n : ℕ) → AreProducts n (t ∷ rest) → are_factors rest ≡ false → ⊥
no_factors t rest n h k = let behind = (and_parts (is_factor t || (is_joining t && begins_with_factor rest)) (are_factors rest) h.factors).1 in cc

each_apart : (n : ℕ) (t : Target) (ts : List Target) → AreProducts n (t ∷ ts) → All (IsProduct n) (products_of (t ∷ ts))
each_apart n t [] h = All-cons (IsProduct n) (t ∷ []) [] (alone n t (begins_first n t [] h)) (All-nil (IsProduct n))
each_apart n t (Star ∷ []) h = absurd (no_factors t (Star ∷ []) n h refl)
each_apart n t (Star ∷ u ∷ us) h =
    let again = (or_parts (names_again t (Star ∷ u ∷ us)) (has_product_of_one (u ∷ us)) h.different).0 in
    onto_products n t (products_of (u ∷ us)) (begins_first n t (Star ∷ u ∷ us) h) (some_product u us)
    (each_apart n u us (next_factor n t u us h))
    (goes_on_away (qubit_of t) u us (names_no_more t (Star ∷ u ∷ us) h.begins again))
each_apart n t (Pauli inverted l q ∷ us) h =
    All-cons (IsProduct n) (t ∷ []) (products_of (Pauli inverted l q ∷ us)) (alone n t (begins_first n t (Pauli inverted l q ∷ us) h))
    (each_apart n (Pauli inverted l q) us (next_product n t (Pauli inverted l q) us h refl))
each_apart n t (u ∷ us) h = absurd (no_factors t (u ∷ us) n h refl)

pub all_apart : (n : ℕ) (ts : List Target) → are_products ts ≡ true → list_any names_twice (products_of ts) ≡ false → list_all target_is_written ts ≡ true → qubits_named ts ≤ n → All (IsProduct n) (products_of ts)
all_apart n [] form different written le = All-nil (IsProduct n)
all_apart n (t ∷ ts) form different written le =
    let parts = and_parts (is_factor t) (are_factors ts) (sym (products-first t ts) ∙ form) in
    each_apart n t ts (record {
      begins = parts.0;
      factors =
          and_from (is_factor t || (is_joining t && begins_with_factor ts)) (are_factors ts)
          (or_left (is_factor t) (is_joining t && begins_with_factor ts) parts.0) parts.1;
      different = sym (twice (t ∷ ts)) ∙ different;
      written = written;
      within = le;
    })
