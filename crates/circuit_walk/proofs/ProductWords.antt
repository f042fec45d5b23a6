-- Products cut out of targets with the stars between their factors: they are the products one for one, and each is a
-- part of the targets, from its place on up to the next.
use Rattle.std.proofs.Common.{◌≡◌, ℕ, suc, zero, ◌+◌, ◌-◌, Bool, false, List, [], ◌∷◌, length, length-append, map, take, get_or, None, refl, sym, ap, ap₂, subst, ◌∙◌, arith, add-one}
use Rattle.std.proofs.Math.ListN.{get_or-map}
use Rattle.std.proofs.Math.Seq.{drop-append-add}
use Rattle.std.proofs.lemmas.List.{take_at}
use Rattle.std.specs.List.{flat_map, onto_first, slice_range}
use Rattle.pauli_word.specs.Parity.{exclusive_or}
use Rattle.step_model.specs.declared.step.Term.{Term}
use Rattle.stim_parser.specs.declared.target.Target.{Target}
use Rattle.stim_parser.specs.declared.target.Target.TheVariants.{Star}
use Rattle.stim_parser.specs.Limits.{products_of}
use Rattle.circuit_walk.specs.Letters.{letters_named}
use Rattle.circuit_walk.specs.Targets.{is_inverted, is_product_inverted, term_of}
use Rattle.circuit_walk.specs.private.InstructionSteps.{in_front, product_words, words_length}

-- ---- as many, with the same letters and as many `!`

number-in_front : (t : Target) (words products : List (List Target)) → length words ≡ length products → length (in_front t words) ≡ length (onto_first t products)
number-in_front t [] [] h = refl
number-in_front t (w ∷ words) (p ∷ products) h = h
number-in_front t words products h = absurd (omega (arith, h))

pub words_number : (targets : List Target) → length (product_words targets) ≡ length (products_of targets)
words_number [] = refl
words_number (t ∷ []) = refl
words_number (t ∷ Star ∷ ts) = number-in_front t (product_words ts) (products_of ts) (words_number ts)
words_number (t ∷ u ∷ ts) = omega (arith, words_number (u ∷ ts))

letters-in_front : (t : Target) (words products : List (List Target)) → map (letters_named None) words ≡ map (map term_of) products
    → map (letters_named None) (in_front t words) ≡ map (map term_of) (onto_first t products)
letters-in_front t [] [] h = refl
letters-in_front t (w ∷ words) (p ∷ products) h = ap (onto_first (term_of t)) h
letters-in_front t words products h = absurd cc

words_letters : (targets : List Target) → map (letters_named None) (product_words targets) ≡ map (map term_of) (products_of targets)
words_letters [] = refl
words_letters (t ∷ []) = refl
words_letters (t ∷ Star ∷ ts) = letters-in_front t (product_words ts) (products_of ts) (words_letters ts)
words_letters (t ∷ u ∷ ts) = ap (λ (rest : List (List Term)). (term_of t ∷ []) ∷ rest) (words_letters (u ∷ ts))

-- the first of these with a further one added
onto_parity : Bool → List Bool → List Bool
onto_parity b [] = exclusive_or b false ∷ []
onto_parity b (c ∷ cs) = exclusive_or b c ∷ cs

inverted-in_front : (t : Target) (words products : List (List Target)) → map is_product_inverted words ≡ map is_product_inverted products
    → map is_product_inverted (in_front t words) ≡ map is_product_inverted (onto_first t products)
unfolding onto_parity
inverted-in_front t [] [] h = refl
inverted-in_front t (w ∷ words) (p ∷ products) h = ap (onto_parity (is_inverted t)) h
inverted-in_front t words products h = absurd cc

words_inverted : (targets : List Target) → map is_product_inverted (product_words targets) ≡ map is_product_inverted (products_of targets)
words_inverted [] = refl
words_inverted (t ∷ []) = refl
words_inverted (t ∷ Star ∷ ts) = inverted-in_front t (product_words ts) (products_of ts) (words_inverted ts)
words_inverted (t ∷ u ∷ ts) =
    ap (λ (rest : List Bool). exclusive_or (is_inverted t) false ∷ rest) (words_inverted (u ∷ ts))

-- a product with its stars: it has the letters of the factors, and a `!` as often
pub record IsWordOf (product word : List Target) : Type 0 where
  pub letters : letters_named None word ≡ map term_of product
  pub inverted : is_product_inverted word ≡ is_product_inverted product

pub words_are : (targets : List Target) (k : ℕ) → IsWordOf (get_or (products_of targets) k []) (get_or (product_words targets) k [])
words_are targets k =
    record {
      letters =
          sym (get_or-map (letters_named None) (product_words targets) k [])
          ∙ ap (λ (xs : List (List Term)). get_or xs k []) (words_letters targets)
          ∙ get_or-map (map term_of) (products_of targets) k [];
      inverted =
          sym (get_or-map is_product_inverted (product_words targets) k [])
          ∙ ap (λ (bs : List Bool). get_or bs k (is_product_inverted [])) (words_inverted targets)
          ∙ get_or-map is_product_inverted (products_of targets) k [];
    }

-- ---- parts of the targets

-- words one behind another
abbrev joined : List (List Target) → List Target
joined words = flat_map (λ w. w) words

joined-in_front : (t : Target) (words : List (List Target)) → joined (in_front t words) ≡ t ∷ Star ∷ joined words
joined-in_front t [] = refl
joined-in_front t (w ∷ words) = refl

-- nothing is left out
joined_words : (targets : List Target) → joined (product_words targets) ≡ targets
joined_words [] = refl
joined_words (t ∷ []) = refl
joined_words (t ∷ Star ∷ ts) =
    joined-in_front t (product_words ts) ∙ ap (λ (rest : List Target). t ∷ Star ∷ rest) (joined_words ts)
joined_words (t ∷ u ∷ ts) = ap (λ (rest : List Target). t ∷ rest) (joined_words (u ∷ ts))

piece_slice : (words : List (List Target)) (k : ℕ) → slice_range (joined words) (words_length (take k words)) (words_length (take (suc k) words)) ≡ get_or words k []
piece_slice [] zero = refl
piece_slice [] (suc k) = refl
piece_slice (w ∷ words) zero = take_at w (joined words) (length w + 0 - 0) (omega arith)
piece_slice (w ∷ words) (suc k) =
    let a = words_length (take k words) in
    let b = words_length (take (suc k) words) in
    ap₂ (λ (n : ℕ) (rest : List Target). take n rest)
    (the_gap (length w) a b)
    (drop-append-add w (joined words) a)
    ∙ piece_slice words k
  where
    the_gap : (n a b : ℕ) → n + b - (n + a) ≡ b - a
    the_gap n a b = omega arith

pub word_slice : (targets : List Target) (k : ℕ) → slice_range targets (words_length (take k (product_words targets))) (words_length (take (k + 1) (product_words targets))) ≡ get_or (product_words targets) k []
word_slice targets k =
    let words = product_words targets in
    ap₂ (λ (ts : List Target) (n : ℕ). slice_range ts (words_length (take k words)) (words_length (take n words))) (sym (joined_words targets)) (add-one k)
    ∙ piece_slice words k

-- what stands between the places of two neighbours is a product with its stars
pub slice_is : (targets : List Target) (k at end : ℕ) → at ≡ words_length (take k (product_words targets)) → end ≡ words_length (take (k + 1) (product_words targets))
    → IsWordOf (get_or (products_of targets) k []) (slice_range targets at end)
slice_is targets k at end starts ends =
    subst (IsWordOf (get_or (products_of targets) k [])) (sym (ap₂ (slice_range targets) starts ends ∙ word_slice targets k)) (words_are targets k)

-- ---- as long

length-joined : (words : List (List Target)) → length (joined words) ≡ words_length words
length-joined [] = refl
length-joined (w ∷ words) = omega (arith, length-joined words, length-append w (joined words))

pub words_length-all : (targets : List Target) → words_length (product_words targets) ≡ length targets
words_length-all targets = sym (length-joined (product_words targets)) ∙ ap length (joined_words targets)
