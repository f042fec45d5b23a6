-- The step of an instruction with a number: it is that of the target, of the pair or of the product with this number.
use Rattle.std.proofs.Common.{◌≡◌, ◌<◌, ◌+◌, ◌*◌, ℕ, zero, suc, Bool, true, false, if◌then◌else◌, List, [], ◌∷◌, length, map, get_or, Option, None, Some, option_map, is_some, sym, ap, ap₂, ◌∙◌, subst, arith}
use Rattle.std.specs.Prelude.{slice_get}
use Rattle.std.proofs.lemmas.Option.{slice_get-get_or, slice_get-map}
use Rattle.gate_table.specs.declared.gate.Gate.{Gate}
use Rattle.step_model.specs.Listing.{Collapse, Measured}
use Rattle.stim_parser.specs.declared.target.Target.{Target}
use Rattle.stim_parser.specs.declared.target.Target.TheVariants.{Star}
use Rattle.circuit_walk.specs.declared.step.Counts.{Counts}
use Rattle.circuit_walk.specs.Before.{Before}
use Rattle.circuit_walk.specs.StepsMade.{collapses_made, flip_of, numbered_from, pair_made, pairs_made}
use Rattle.circuit_walk.specs.private.InstructionSteps.{recorded_at}

-- the target at a place
pub there_is : (ts : List Target) (at : ℕ) → at < length ts → (t : Target) × (slice_get ts at ≡ Some t)
there_is ts at h = (get_or ts at Star, slice_get-get_or ts at Star h)

pub of_each : {X Y : Type 0} (f : X → Y) (xs : List X) (k : ℕ) (x : X) → slice_get xs k ≡ Some x → slice_get (map f xs) k ≡ Some (f x)
of_each f xs k x h = slice_get-map f xs k ∙ ap (option_map f) h

pub numbered_at : {X Y : Type 0} (m : ℕ) (f : ℕ → X → Y) (xs : List X) (k : ℕ) (x : X) → slice_get xs k ≡ Some x → slice_get (numbered_from m f xs) k ≡ Some (f (m + k) x)
numbered_at m f [] k x h = cc
numbered_at m f (y ∷ ys) zero x h =
    let same : y ≡ x = cc in
    let e : m ≡ m + 0 = omega arith in
    ap Some (ap₂ f e same)
numbered_at m f (y ∷ ys) (suc k) x h =
    let e : m + 1 + k ≡ m + suc k = omega arith in
    numbered_at (m + 1) f ys k x h ∙ ap (λ j. Some (f j x)) e

pub pair_at : (n r : ℕ) (g : Gate) (ts : List Target) (k : ℕ) (a b : Target) → slice_get ts (2 * k) ≡ Some a → slice_get ts (2 * k + 1) ≡ Some b → slice_get (pairs_made n r g ts) k ≡ Some (pair_made n r g a b)
pair_at n r g [] k a b h i = cc
pair_at n r g (x ∷ []) zero a b h i = cc
pair_at n r g (x ∷ []) (suc k) a b h i =
    let e : 2 * suc k ≡ suc (suc (2 * k)) = omega arith in
    let got = subst (λ j. slice_get (x ∷ []) j ≡ Some a) e h in cc
pair_at n r g (x ∷ y ∷ ts) zero a b h i =
    let first : x ≡ a = cc in
    let second : y ≡ b = cc in
    ap₂ (λ p q. Some (pair_made n r g p q)) first second
pair_at n r g (x ∷ y ∷ ts) (suc k) a b h i =
    let e : 2 * suc k ≡ suc (suc (2 * k)) = omega arith in
    let f : 2 * suc k + 1 ≡ suc (suc (2 * k + 1)) = omega arith in
    pair_at n r g ts k a b (subst (λ j. slice_get (x ∷ y ∷ ts) j ≡ Some a) e h) (subst (λ j. slice_get (x ∷ y ∷ ts) j ≡ Some b) f i)

flip_is : (f k g : ℕ) (arguments : List (List ℕ)) (flips : Bool) → flips ≡ is_some (slice_get arguments 0) → g ≡ f + k * (if (if flips then true else false) then 1 else 0) → flip_of (f + (0 + k)) arguments ≡ (if flips then Some g else None)
flip_is f k g [] flips is faults = ap (λ (b : Bool). if b then Some g else None) (sym is)
flip_is f k g (p ∷ ps) flips is faults =
    let counted : g ≡ f + k * 1 = faults ∙ ap (λ (b : Bool). f + k * (if (if b then true else false) then 1 else 0)) is in
    let e : f + (0 + k) ≡ g = omega (arith, counted) in
    ap (λ (x : ℕ). Some x) e ∙ ap (λ (b : Bool). if b then Some g else None) (sym is)

-- the collapse of the one with this number
pub collapse_at : {X : Type 0} (b : Before) (arguments : List (List ℕ)) (measured : X → Measured) (inverted : X → Bool) (xs : List X) (k : ℕ) (x : X) (c : Counts) (flips : Bool) → slice_get xs k ≡ Some x → flips ≡ is_some (slice_get arguments 0) → c.records ≡ b.records + k * 1 → c.faults ≡ b.faults + k * (if (if flips then true else false) then 1 else 0) → slice_get (collapses_made b arguments measured inverted xs) k ≡ Some (Collapse (measured x) (recorded_at c flips (inverted x)))
collapse_at b arguments measured inverted xs k x c flips got is records faults =
    let number : b.records + (0 + k) ≡ c.records = omega (arith, records) in
    numbered_at 0 _ xs k x got
    ∙ ap₂ (λ (r : ℕ) (flip : Option ℕ). Some (Collapse (measured x) (Some (record { number = r; inverted = inverted x; flip = flip })))) number
    (flip_is b.faults k c.faults arguments flips is faults)
