-- Held coordinates are those of successive detectors, and the lines of these follow the lines pushed before.
use Rattle.std.proofs.Common.{◌≡◌, ℕ, ◌+◌, ◌≤◌, ◌<◌, List, [], ◌∷◌, ◌++◌, Option, get_or, length, map, take, ap, subst, sym, ◌∙◌, append_assoc, append-nil, arith}
use Rattle.std.specs.Prelude.{ℤ, Some, slice_get}
use Rattle.std.specs.List.{flat_map, range_with_len}
use Rattle.std.proofs.lemmas.Grind.{flat_map-append}
use Rattle.std.proofs.lemmas.List.{get_or-append-add, get_or-map, get_or-take, length-append, length-map, length-take-le, map-append, take_more}
use Rattle.std.proofs.lemmas.Option.{get_or_from_slice_get, slice_get_within}
use Rattle.arrayvec.specs.ArrayVec.{ArrayVec}
use Rattle.error_models.specs.ModelText.{detector_text}
use Rattle.step_model.specs.Held.{Held}
use Rattle.step_model.specs.Pushed.{Pushes}
use Rattle.step_model.proofs.Pushing.{Pushes-nil, Pushes-trans}
use Rattle.step_model.proofs.RangeLemmas.{range-append}
use Rattle.backward.specs.private.HeldDetectors.{AreHeld, HoldsDetectors, lines_text}

-- none are held
none_held : (coordinates : List (List ℤ)) (from : ℕ) → from ≤ length coordinates → AreHeld coordinates from []
none_held coordinates from within =
    let same : from ≡ from + 0 = omega arith in
    record {
      within = omega (arith, within);
      next = append-nil (take from coordinates) ∙ ap (λ n. take n coordinates) same;
    }

-- those of the next detector are held too
one_more_held : (coordinates : List (List ℤ)) (from : ℕ) (lists : List (List ℤ)) (next : List ℤ)
    → AreHeld coordinates from lists → slice_get coordinates (from + length lists) ≡ Some next → AreHeld coordinates from (lists ++ next ∷ [])
one_more_held coordinates from lists next held is =
    let d = from + length lists in
    let within : d < length coordinates = slice_get_within coordinates d next is in
    let count : d + 1 ≡ from + length (lists ++ next ∷ []) = omega (arith, length-append lists (next ∷ [])) in
    record {
      within = omega (arith, within, count);
      next =
          sym (append_assoc (take from coordinates) lists (next ∷ []))
          ∙ ap (λ l. l ++ next ∷ []) held.next
          ∙ ap (λ c. take d coordinates ++ c ∷ []) (sym (get_or_from_slice_get coordinates d next [] is))
          ∙ sym (take_more coordinates d [] within)
          ∙ ap (λ n. take n coordinates) count;
    }

-- what is held at a place is of the detector so many further
pub held_at : (coordinates : List (List ℤ)) (from : ℕ) (held : List (ArrayVec ℤ)) (i : ℕ) (list : ArrayVec ℤ)
    → AreHeld coordinates from (map (λ l. l.items) held) → i < length held → list ≡ get_or held i list → list.items ≡ get_or coordinates (from + i) []
held_at coordinates from held i list are within is =
    let items : ArrayVec ℤ → List ℤ = λ l. l.items in
    let before : length (take from coordinates) ≡ from = length-take-le from coordinates (omega (arith, are.within)) in
    ap items is
    ∙ sym (get_or-map items held i list [] within)
    ∙ sym (get_or-append-add (take from coordinates) (map items held) i [])
    ∙ ap (λ n. get_or (take from coordinates ++ map items held) (n + i) []) before
    ∙ ap (λ l. get_or l (from + i) []) are.next
    ∙ get_or-take (from + length (map items held)) coordinates (from + i) [] (omega (arith, within, length-map held items))

-- the lines of some detectors and of those behind them
lines_text-parts : (coordinates : List (List ℤ)) (m n : ℕ) → lines_text coordinates 0 m ++ lines_text coordinates m n ≡ lines_text coordinates 0 (m + n)
lines_text-parts coordinates m n =
    let line : ℕ → List ℕ = λ d. detector_text d (get_or coordinates d []) in
    let place : 0 + m ≡ m = omega arith in
    sym (ap (flat_map line) (range-append 0 m n)
    ∙ flat_map-append line (range_with_len 0 m) (range_with_len (0 + m) n)
    ∙ ap (λ k. flat_map line (range_with_len 0 m) ++ flat_map line (range_with_len k n)) place)

-- nothing yet
pub begins : {S : Type 0} {taken : S → Option (List ℕ)} {failures : S → ℕ} {s : S} {h : Held} → (coordinates lists : List (List ℤ)) → lists ≡ [] → HoldsDetectors taken failures s s h h coordinates 0 lists 0
begins {S} {taken} {failures} {s} {h} coordinates lists none =
    record {
      counted = omega (arith, ap length none);
      held = subst (AreHeld coordinates 0) (sym none) (none_held coordinates 0 (omega arith));
      pushes = Pushes-nil;
    }

module _ {S : Type 0} {taken : S → Option (List ℕ)} {failures : S → ℕ} {s₀ s₁ : S} {h₀ h₁ : Held} where
  -- the coordinates of the next detector are held too
  pub holds_more : (coordinates : List (List ℤ)) (from after : ℕ) (held more : List (ArrayVec ℤ)) (next : List ℤ) (d : ℕ)
      → HoldsDetectors taken failures s₀ s₁ h₀ h₁ coordinates from (map (λ l. l.items) held) d
      → after ≡ from → more ≡ held ++ record { items = next } ∷ [] → slice_get coordinates d ≡ Some next
      → HoldsDetectors taken failures s₀ s₁ h₀ h₁ coordinates after (map (λ l. l.items) more) (d + 1)
  holds_more coordinates from after held more next d holds same is given =
      let items : ArrayVec ℤ → List ℤ = λ l. l.items in
      let lists = map items held in
      let grown : map items more ≡ lists ++ next ∷ [] = ap (map items) is ∙ map-append items held (record { items = next } ∷ []) in
      let here : slice_get coordinates (from + length lists) ≡ Some next = ap (slice_get coordinates) holds.counted ∙ given in
      let count : after + length (map items more) ≡ d + 1 = omega (arith, same, holds.counted, ap length grown, length-append lists (next ∷ [])) in
      record {
        counted = count;
        held = subst (λ n. AreHeld coordinates n (map items more)) (sym same) (subst (AreHeld coordinates from) (sym grown) (one_more_held coordinates from lists next holds.held here));
        pushes = subst (λ n. Pushes taken failures s₀ s₁ h₀ h₁ (lines_text coordinates 0 n)) (sym same) holds.pushes;
      }

module _ {S : Type 0} {taken : S → Option (List ℕ)} {failures : S → ℕ} {s₀ s₁ s₂ : S} {h₀ h₁ h₂ : Held} where
  -- the lines of those that were held are pushed
  pub pushed_on : (coordinates : List (List ℤ)) (from n : ℕ) (held : List (ArrayVec ℤ)) (d : ℕ)
      → HoldsDetectors taken failures s₀ s₁ h₀ h₁ coordinates from (map (λ l. l.items) held) d → length held ≡ n
      → Pushes taken failures s₁ s₂ h₁ h₂ (lines_text coordinates from n) → Pushes taken failures s₀ s₂ h₀ h₂ (lines_text coordinates 0 d)
  pushed_on coordinates from n held d holds size pushes =
      let items : ArrayVec ℤ → List ℤ = λ l. l.items in
      let count : from + n ≡ d = omega (arith, size, holds.counted, length-map held items) in
      rw (← (lines_text-parts coordinates from n ∙ ap (lines_text coordinates 0) count)) (Pushes-trans holds.pushes pushes)

  -- then none are held
  pub holds_none : (coordinates : List (List ℤ)) (from n after : ℕ) (held : List (ArrayVec ℤ)) (lists : List (List ℤ)) (d : ℕ)
      → HoldsDetectors taken failures s₀ s₁ h₀ h₁ coordinates from (map (λ l. l.items) held) d → length held ≡ n
      → Pushes taken failures s₁ s₂ h₁ h₂ (lines_text coordinates from n) → after ≡ from + n → lists ≡ []
      → HoldsDetectors taken failures s₀ s₂ h₀ h₂ coordinates after lists d
  holds_none coordinates from n after held lists d holds size pushes there none =
      let items : ArrayVec ℤ → List ℤ = λ l. l.items in
      let count : after ≡ d = omega (arith, size, there, holds.counted, length-map held items) in
      let within : after ≤ length coordinates = omega (arith, size, there, holds.held.within, length-map held items) in
      record {
        counted = omega (arith, count, ap length none);
        held = subst (AreHeld coordinates after) (sym none) (none_held coordinates after within);
        pushes = subst (λ k. Pushes taken failures s₀ s₂ h₀ h₂ (lines_text coordinates 0 k)) (sym count) (pushed_on coordinates from n held d holds size pushes);
      }
