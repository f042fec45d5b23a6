-- A loop that pushes the text of one item after another.
use Rattle.std.proofs.Common.{◌≡◌, ℕ, ◌+◌, ◌<◌, List, [], ◌∷◌, ◌++◌, length, take, get_or, Option, ap, sym, ◌∙◌, arith}
use Rattle.std.specs.List.{flat_map, range_with_len}
use Rattle.std.proofs.lemmas.List.{take_more, flat_map_more, map-id}
use Rattle.std.proofs.lemmas.List.FromFn.{map-range_with_len_more}
use Rattle.step_model.specs.Held.{Held}
use Rattle.step_model.specs.Pushed.{Pushes}
use Rattle.step_model.proofs.Pushing.{Pushes-trans}

-- the texts of some items and of one more
flat_map-one_more : {X : Type 0} → (f : X → List ℕ) (xs : List X) (x : X) → flat_map f xs ++ f x ≡ flat_map f (xs ++ x ∷ [])
flat_map-one_more f xs x = flat_map_more f [] xs x

range-one_more : (n : ℕ) → range_with_len 0 n ++ n ∷ [] ≡ range_with_len 0 (n + 1)
range-one_more n =
    ap (λ xs. xs ++ n ∷ []) (sym (map-id (range_with_len 0 n)))
    ∙ (sym (map-range_with_len_more (λ x. x) 0 n n (omega arith)) ∙ map-id (range_with_len 0 (n + 1)))

module _ {S : Type 0} {taken : S → Option (List ℕ)} {failures : S → ℕ} {s₀ s₁ s₂ : S} {h₀ h₁ h₂ : Held} where
  -- the items of a list, in their order
  pub Pushes-item : {X : Type 0} → (f : X → List ℕ) (xs : List X) (i : ℕ) (x : X) → i < length xs
      → Pushes taken failures s₀ s₁ h₀ h₁ (flat_map f (take i xs)) → Pushes taken failures s₁ s₂ h₁ h₂ (f (get_or xs i x))
      → Pushes taken failures s₀ s₂ h₀ h₂ (flat_map f (take (i + 1) xs))
  Pushes-item f xs i x below p q =
      let whole = flat_map-one_more f (take i xs) (get_or xs i x) ∙ ap (flat_map f) (sym (take_more xs i x below)) in
      rw (← whole) (Pushes-trans p q)

  -- the numbers from 0
  pub Pushes-number : (f : ℕ → List ℕ) (n : ℕ)
      → Pushes taken failures s₀ s₁ h₀ h₁ (flat_map f (range_with_len 0 n)) → Pushes taken failures s₁ s₂ h₁ h₂ (f n)
      → Pushes taken failures s₀ s₂ h₀ h₂ (flat_map f (range_with_len 0 (n + 1)))
  Pushes-number f n p q =
      let whole = flat_map-one_more f (range_with_len 0 n) n ∙ ap (flat_map f) (range-one_more n) in
      rw (← whole) (Pushes-trans p q)
