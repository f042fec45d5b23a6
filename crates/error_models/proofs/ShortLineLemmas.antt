-- Texts written from the end of a buffer.
use Rattle.std.proofs.Common.{◌≡◌, ℕ, ◌+◌, ◌-◌, ◌<◌, ◌≤◌, ◌^◌, List, [], ◌∷◌, ◌++◌, length, take, drop, get_or, set, suc, Option, refl, ap, ap₂, subst, sym, ◌∙◌, arith, append_assoc, append-nil, length-set, length-drop}
use Rattle.std.specs.Prelude.{decimal}
use Rattle.std.specs.List.{flat_map}
use Rattle.std.proofs.lemmas.Fmt.{length-decimal-le}
use Rattle.std.proofs.lemmas.Grind.{drop-set_at, flat_map-append}
use Rattle.std.proofs.lemmas.List.{take_all, drop_all, drop_more, drop-drop, drop_at, drop-append-le, length-take-le}
use Rattle.std.proofs.Math.Seq.{take-add}
use Rattle.step_model.specs.Held.{Held}
use Rattle.step_model.specs.Pushed.{Pushes}
use Rattle.step_model.proofs.Pushing.{Pushes-trans}
use Rattle.error_models.specs.ModelText.{target_text, targets_text}

-- the digits of a target
pub digits_of_a_target : (n : ℕ) → n < 2 ^ 32 → length (decimal n) ≤ 10
digits_of_a_target n h = length-decimal-le 10 n (omega arith) (omega (arith, h)) (omega (arith, h))

-- two put before what stands from some place on
pub two_before : (xs : List ℕ) (at a b : ℕ) → 2 ≤ at → at ≤ length xs → drop (at - 2) (set (set xs (at - 1) a) (at - 2) b) ≡ b ∷ a ∷ drop at xs
two_before xs at a b lo hi =
    let long = length-set xs (at - 1) a in
    let next : at - 2 + 1 ≡ at - 1 = omega arith in
    let last : at - 1 + 1 ≡ at = omega arith in
    drop-set_at (set xs (at - 1) a) (at - 2) (at - 2) b refl (omega (arith, long))
    ∙ ap (λ l. b ∷ l) (drop-set_at xs (at - 1) (at - 2 + 1) a next (omega arith) ∙ ap (λ n. a ∷ drop n xs) last)

-- what stands between the parts of a line
pub line_parts : (head targets rest : List ℕ) → head ++ (targets ++ 10 ∷ rest) ≡ ((head ++ targets) ++ 10 ∷ []) ++ rest
line_parts head targets rest = simp append_assoc

-- what stands between the parts of the line of a detector
pub detector_parts : (coordinates number : List ℕ) → coordinates ++ 32 ∷ 68 ∷ (number ++ 10 ∷ []) ≡ ((coordinates ++ 32 ∷ 68 ∷ []) ++ number) ++ 10 ∷ []
detector_parts coordinates number = simp append_assoc

-- the targets up to some place, and some more
pub targets_more : (detectors : ℕ) (targets : List ℕ) (n m : ℕ) → targets_text detectors (take n targets) ++ targets_text detectors (take m (drop n targets)) ≡ targets_text detectors (take (n + m) targets)
targets_more detectors targets n m =
    sym (flat_map-append (target_text detectors) (take n targets) (take m (drop n targets)))
    ∙ ap (targets_text detectors) (sym (take-add n m targets))

-- the whole of a buffer from where a text starts that ends where the buffer does
pub rest_written : (buffer old text : List ℕ) (start : ℕ) → length buffer ≡ 4096 → length old ≡ 4096 → drop start buffer ≡ text ++ drop 4096 old → take (4096 - start) (drop start buffer) ≡ text
rest_written buffer old text start long old_long h =
    take_all (4096 - start) (drop start buffer) (omega (arith, length-drop start buffer, long))
    ∙ (h ∙ (ap (λ l. text ++ l) (drop_all 4096 old (omega (arith, old_long))) ∙ append-nil text))

-- what is put in, from some place on, and what stands behind it
pub put_from : (a k n : ℕ) (xs ys : List ℕ) → a ≤ length xs → n ≤ length ys → drop (a + n) (take a xs ++ (ys ++ drop k (drop a xs))) ≡ drop n ys ++ drop (a + k) xs
put_from a k n xs ys within le =
    let behind = drop k (drop a xs) in
    sym (drop-drop n a (take a xs ++ (ys ++ behind)))
    ∙ (ap (drop n) (drop_at (take a xs) (ys ++ behind) a (length-take-le a xs within))
    ∙ (drop-append-le n ys behind le ∙ ap (λ l. drop n ys ++ l) (drop-drop k a xs)))

-- the items of a list from one on, and those behind it
pub items_from : {X : Type 0} (f : X → List ℕ) (xs : List X) (i next : ℕ) (x : X) → i < next → i < length xs → f (get_or xs i x) ++ flat_map f (take (next - (i + 1)) (drop (i + 1) xs)) ≡ flat_map f (take (next - i) (drop i xs))
items_from f xs i next x lt within =
    let counted : next - i ≡ suc (next - (i + 1)) = omega (arith, lt) in
    sym (ap₂ (λ n ys. flat_map f (take n ys)) counted (drop_more xs i x within))

-- the items up to some place, and some more
pub items_more : {X : Type 0} (f : X → List ℕ) (xs : List X) (i next : ℕ) → i ≤ next → flat_map f (take i xs) ++ flat_map f (take (next - i) (drop i xs)) ≡ flat_map f (take next xs)
items_more f xs i next le =
    let counted : i + (next - i) ≡ next = omega (arith, le) in
    sym (flat_map-append f (take i xs) (take (next - i) (drop i xs)))
    ∙ ap (flat_map f) (sym (take-add i (next - i) xs) ∙ ap (λ n. take n xs) counted)

-- one after another, as one text
pub Pushes-one : {S : Type 0} {taken : S → Option (List ℕ)} {failures : S → ℕ} {s₀ s₁ s₂ : S} {h₀ h₁ h₂ : Held} {xs ys zs : List ℕ} → Pushes taken failures s₀ s₁ h₀ h₁ xs → Pushes taken failures s₁ s₂ h₁ h₂ ys → xs ++ ys ≡ zs → Pushes taken failures s₀ s₂ h₀ h₂ zs
Pushes-one {S} {taken} {failures} {s₀} {s₁} {s₂} {h₀} {h₁} {h₂} p q e = subst (Pushes taken failures s₀ s₂ h₀ h₂) e (Pushes-trans p q)
