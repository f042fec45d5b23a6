-- The differences of two lists of parities are taken target by target.
use Rattle.std.proofs.Common.{◌≡◌, Bool, List, [], ◌∷◌, map, refl, ap}
use Rattle.pauli_word.specs.Parity.{exclusive_or}
use Rattle.step_model.specs.Targets.{differences}

pub differences-map : {X : Type 0} (f g : X → Bool) (xs : List X) → differences (map f xs) (map g xs) ≡ map (λ x. exclusive_or (f x) (g x)) xs
differences-map f g [] = refl
differences-map f g (x ∷ xs) = ap (λ rest. exclusive_or (f x) (g x) ∷ rest) (differences-map f g xs)
