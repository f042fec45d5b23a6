-- Circuits with feedback and with products, worked by hand: the definitions compute what is expected of them.
use Rattle.std.proofs.Common.{◌≡◌, ℕ, Bool, true, false, List, [], ◌∷◌, Option, None, Some, refl}
use Rattle.gate_table.specs.declared.gate.Gate.TheVariants.{H}
use Rattle.pauli_word.specs.declared.letter.Letter.{Letter}
use Rattle.pauli_word.specs.declared.letter.Letter.TheVariants.{I, X, Y, Z}
use Rattle.step_model.specs.declared.step.Place.TheVariants.{Start, After}
use Rattle.step_model.specs.Listing.{Listing, ListedStep, One, Collapse, Feedback, Word, ListedFault, Flips}
use Rattle.step_model.specs.Frames.{pair_coins}
use Rattle.step_model.specs.Hits.{is_hit}
use Rattle.step_model.specs.Runs.{records_of}
use Rattle.step_model.specs.Sensitivities.{place_of}

abbrev measure : List Letter → ℕ → Bool → Option ℕ → ListedStep
measure w r inverted flip = Collapse (Word w) (Some (record { number = r; inverted = inverted; flip = flip }))

abbrev listing : ℕ → ℕ → List ListedStep → List (List ℕ) → List ListedFault → Listing
listing n collapses steps detectors faults =
    record { qubits = n; records = collapses; collapses = collapses; steps = steps; detectors = detectors; observables = []; coordinates = []; faults = faults }

abbrev flip_of : ℕ → ListedFault
flip_of r = record { text = []; bound = 0; effect = Flips r }

-- H 0, M(0.1) 0, CX rec[-1] 0, M 0, DETECTOR rec[-1]
abbrev returned : Listing
returned = listing 1 2 (One H 0 ∷ measure (Z ∷ []) 0 false (Some 0) ∷ Feedback (X ∷ []) 0 ∷ measure (Z ∷ []) 1 false None ∷ []) ((1 ∷ []) ∷ []) (flip_of 0 ∷ [])

returned-place : place_of returned 0 ≡ None
returned-place = refl

returned-hit : is_hit returned 0 0 ≡ true
returned-hit = refl

returned-run : records_of returned [] (true ∷ false ∷ []) ≡ true ∷ false ∷ []
returned-run = refl

returned-flipped : records_of returned (true ∷ []) (false ∷ false ∷ []) ≡ true ∷ true ∷ []
returned-flipped = refl

-- H 0, M 0, CX rec[-1] 1, M 1, DETECTOR rec[-1]
abbrev carried_on : Listing
carried_on = listing 2 2 (One H 0 ∷ measure (Z ∷ I ∷ []) 0 false None ∷ Feedback (I ∷ X ∷ []) 0 ∷ measure (I ∷ Z ∷ []) 1 false None ∷ []) ((1 ∷ []) ∷ []) []

carried_on-place : place_of carried_on 0 ≡ Some (Start 0)
carried_on-place = refl

carried_on-pair : pair_coins carried_on (Start 0) ≡ true ∷ true ∷ []
carried_on-pair = refl

-- M !0, CX rec[-1] 1, M 1
abbrev inverted_first : Listing
inverted_first = listing 2 2 (measure (Z ∷ I ∷ []) 0 true None ∷ Feedback (I ∷ X ∷ []) 0 ∷ measure (I ∷ Z ∷ []) 1 false None ∷ []) [] []

inverted-run : records_of inverted_first [] (false ∷ false ∷ []) ≡ true ∷ true ∷ []
inverted-run = refl

-- MPP X0*X1 Z0*Z1 Y0*Y1, DETECTOR rec[-1] rec[-2] rec[-3]
abbrev products : Listing
products = listing 2 3 (measure (X ∷ X ∷ []) 0 false None ∷ measure (Z ∷ Z ∷ []) 1 false None ∷ measure (Y ∷ Y ∷ []) 2 false None ∷ []) ((2 ∷ 1 ∷ 0 ∷ []) ∷ []) []

products-place : place_of products 0 ≡ None
products-place = refl

products-run : records_of products [] (true ∷ false ∷ false ∷ []) ≡ true ∷ false ∷ false ∷ []
products-run = refl

-- MPP X0*X1, M 0, DETECTOR rec[-1]
abbrev product_first : Listing
product_first = listing 2 2 (measure (X ∷ X ∷ []) 0 false None ∷ measure (Z ∷ I ∷ []) 1 false None ∷ []) ((1 ∷ []) ∷ []) []

product_first-place : place_of product_first 0 ≡ Some (After 0)
product_first-place = refl

product_first-pair : pair_coins product_first (After 0) ≡ false ∷ true ∷ []
product_first-pair = refl
