-- Values of pieces read one after another.
use Rattle.std.proofs.Common.{◌≡◌, ℕ, List, [], ◌∷◌, ◌++◌, Option, None, Some, refl, ap, sym, append_assoc}
use Rattle.std.proofs.lemmas.List.{append-nil}
use Rattle.stim_parser.specs.Targets.{each_of}
use Rattle.stim_parser.specs.private.FrontNumbers.{with_front}

one_more : {V : Type 0} (front : List V) (value : V) (rest : Option (List V)) → with_front front (elim rest [ None ↦ None | Some ts ↦ Some (value ∷ ts) ]) ≡ with_front (front ++ value ∷ []) rest
one_more front value None = refl
one_more {V} front value (Some values) = ap (λ (ts : List V). Some ts) (sym (append_assoc front (value ∷ []) values))

-- a piece that writes a value
pub with_front-more : {V : Type 0} (written : List ℕ → Option V) (front : List V) (pieces : List (List ℕ)) (all : List (List ℕ)) (piece : List ℕ) (value : V) → all ≡ piece ∷ pieces
    → Some value ≡ written piece → with_front front (each_of written all) ≡ with_front (front ++ value ∷ []) (each_of written pieces)
with_front-more written front pieces all piece value at e = rw (at, ← e) (one_more front value (each_of written pieces))

-- a piece that writes none
pub with_front-ends : {V : Type 0} (written : List ℕ → Option V) (front : List V) (pieces : List (List ℕ)) (all : List (List ℕ)) (piece : List ℕ) → all ≡ piece ∷ pieces
    → written piece ≡ None → with_front front (each_of written all) ≡ None
with_front-ends written front pieces all piece at e = rw (at, e) refl

pub with_front-done : {V : Type 0} (written : List ℕ → Option V) (front : List V) (all : List (List ℕ)) → all ≡ [] → with_front front (each_of written all) ≡ Some front
with_front-done {V} written front all e = rw e (ap (λ (ts : List V). Some ts) (append-nil front))

pub with_front-none : {V : Type 0} (values : Option (List V)) → with_front [] values ≡ values
with_front-none None = refl
with_front-none (Some values) = refl
