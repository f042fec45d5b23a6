-- Factors one after another, as text, and where there is none.
use Rattle.std.proofs.Common.{◌≡◌, ℕ, ◌+◌, ◌<◌, Bool, true, false, List, [], ◌∷◌, ◌++◌, length, drop, refl, sym, ap, ◌∙◌, arith, append_assoc}
use Rattle.std.specs.Prelude.{codes, ◌&&◌, if◌then◌else◌}
use Rattle.std.proofs.lemmas.List.Concat.{flat_map-append}
use Rattle.pauli_word.specs.declared.letter.Letter.{Letter}
use Rattle.pauli_word.specs.declared.letter.Letter.TheVariants.{I, X, Y, Z}
use Rattle.step_model.specs.Listing.{is_I}
use Rattle.fault_list.specs.FaultLines.{factor_text, product_text}
use Rattle.fault_list.specs.private.FactorTexts.{letter_factor, letter_factors, is_none, starred, joined, joined_on}

pub joined_on-append : (first : Bool) (fs gs : List (List ℕ)) → joined_on first fs ++ joined_on (first && is_none fs) gs ≡ joined_on first (fs ++ gs)
joined_on-append true [] gs = refl
joined_on-append true (f ∷ fs) gs =
    append_assoc f (starred fs) (starred gs)
    ∙ ap (λ rest. f ++ rest) (sym (flat_map-append (λ g. codes "*" ++ g) fs gs))
joined_on-append false fs gs = sym (flat_map-append (λ g. codes "*" ++ g) fs gs)

pub none-append : (first : Bool) (fs gs : List (List ℕ)) → ((first && is_none fs) && is_none gs) ≡ (first && is_none (fs ++ gs))
none-append true [] gs = refl
none-append true (f ∷ fs) gs = refl
none-append false fs gs = refl

pub product_text-some : (fs : List (List ℕ)) → is_none fs ≡ false → joined fs ≡ product_text fs
product_text-some [] h = absurd (cc)
product_text-some (f ∷ fs) h = refl

pub product_text-none : (fs : List (List ℕ)) → is_none fs ≡ true → joined fs ++ codes "I" ≡ product_text fs
product_text-none [] h = refl
product_text-none (f ∷ fs) h = absurd (cc)

-- without the first star
pub drop_star : (fs : List (List ℕ)) → drop 1 (starred fs) ≡ joined fs
drop_star [] = refl
drop_star (f ∷ fs) = refl

pub nothing_joined : (first : Bool) (fs : List (List ℕ)) → starred fs ≡ [] → [] ≡ joined_on first fs
nothing_joined true [] h = refl
nothing_joined true (f ∷ fs) h = absurd (cc)
nothing_joined false fs h = sym h

pub some_where_text : (first : Bool) (fs : List (List ℕ)) → 0 < length (starred fs) → false ≡ (first && is_none fs)
some_where_text true [] h = absurd (omega (arith, h))
some_where_text true (f ∷ fs) h = refl
some_where_text false fs h = refl

-- the letters of successive qubits, one after another
pub letter_factors-append : (q : ℕ) (xs ys : List Letter) → letter_factors q xs ++ letter_factors (q + length xs) ys ≡ letter_factors q (xs ++ ys)
letter_factors-append q [] ys =
    let here : q + 0 ≡ q = omega arith in
    ap (λ i. letter_factors i ys) here
letter_factors-append q (a ∷ xs) ys =
    let there : q + length (a ∷ xs) ≡ q + 1 + length xs = omega arith in
    append_assoc (letter_factor q a) (letter_factors (q + 1) xs) (letter_factors (q + length (a ∷ xs)) ys)
    ∙ ap (λ rest. letter_factor q a ++ rest)
    (ap (λ i. letter_factors (q + 1) xs ++ letter_factors i ys) there ∙ letter_factors-append (q + 1) xs ys)

pub starred-first : (q : ℕ) (a : Letter) (letters : List Letter) → (if is_I a then [] else codes "*" ++ factor_text q a) ++ starred (letter_factors (q + 1) letters) ≡ starred (letter_factors q (a ∷ letters))
starred-first q I letters = refl
starred-first q X letters = refl
starred-first q Y letters = refl
starred-first q Z letters = refl
