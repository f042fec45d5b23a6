-- Numbers added place by place: one place after another, and an offset that has a number for each axis, which shifts and
-- moves as the offset does that it stands for.
use Rattle.std.proofs.Common.{◌≡◌, ℕ, zero, suc, ◌+◌, ◌<◌, ◌≤◌, ℤ, pos, ◌+ℤ◌, List, [], ◌∷◌, length, get_or, set, take, replicate, refl, sym, ap, ap₂, ◌∙◌, arith}
use Rattle.std.specs.Prelude.{min, nat_abs}
use Rattle.std.proofs.lemmas.Int.{ints}
use Rattle.std.proofs.lemmas.List.Elements.{All-cons, All-head, All-nil, All-tail}
use Rattle.stim_parser.specs.Offsets.{moved, shifted}
use Rattle.stim_parser.proofs.CoordinateArguments.{AreUpTo}
use Rattle.circuit_walk.specs.private.Placing.{added}

-- ---- one place after another

pub added-none : (zs : List ℤ) → added zs [] ≡ zs
added-none [] = refl
added-none (z ∷ zs) = refl

pub length-added : (zs ms : List ℤ) → length (added zs ms) ≡ length zs
length-added [] ms = refl
length-added (z ∷ zs) [] = refl
length-added (z ∷ zs) (m ∷ ms) = ap suc (length-added zs ms)

pub added-read : (zs ms : List ℤ) (j : ℕ) (d : ℤ) → get_or (added zs (take j ms)) j d ≡ get_or zs j d
added-read [] ms j d = refl
added-read (z ∷ zs) ms zero d = refl
added-read (z ∷ zs) [] (suc j) d = refl
added-read (z ∷ zs) (m ∷ ms) (suc j) d = added-read zs ms j d

pub added-step : (zs ms : List ℤ) (j : ℕ) (d : ℤ) → j < length zs → j < length ms → set (added zs (take j ms)) j (get_or zs j d +ℤ get_or ms j d) ≡ added zs (take (j + 1) ms)
added-step [] ms j d h k = absurd (omega (arith, h))
added-step (z ∷ zs) [] j d h k = absurd (omega (arith, k))
added-step (z ∷ zs) (m ∷ ms) zero d h k = ap (λ (xs : List ℤ). (z +ℤ m) ∷ xs) (sym (added-none zs))
added-step (z ∷ zs) (m ∷ ms) (suc j) d h k =
    let next : suc j + 1 ≡ suc (j + 1) = omega arith in
    ap (λ (xs : List ℤ). (z +ℤ m) ∷ xs) (added-step zs ms j d (omega (arith, h)) (omega (arith, k)))
    ∙ ap (λ (n : ℕ). added (z ∷ zs) (take n (m ∷ ms))) (sym next)

pub added-enough : (zs ms : List ℤ) (n : ℕ) → min (length ms) (length zs) ≤ n → added zs (take n ms) ≡ added zs ms
added-enough [] ms n h = refl
added-enough (z ∷ zs) [] zero h = refl
added-enough (z ∷ zs) [] (suc n) h = refl
added-enough (z ∷ zs) (m ∷ ms) zero h = absurd (omega (arith, h))
added-enough (z ∷ zs) (m ∷ ms) (suc n) h = ap (λ (xs : List ℤ). (z +ℤ m) ∷ xs) (added-enough zs ms n (omega (arith, h)))

-- ---- an offset on so many axes

pub moved-on_axes : (axes : ℕ) (offset stated : List ℤ) → length stated ≤ axes → added stated (added (replicate axes (pos 0)) offset) ≡ moved offset stated
moved-on_axes axes [] [] few = refl
moved-on_axes axes (o ∷ offset) [] few = refl
moved-on_axes zero offset (c ∷ stated) few = absurd (omega (arith, few))
moved-on_axes (suc axes) [] (c ∷ stated) few =
    ap₂ (λ (z : ℤ) (zs : List ℤ). z ∷ zs) (omega (arith, ints))
    (ap (added stated) (sym (added-none (replicate axes (pos 0)))) ∙ moved-on_axes axes [] stated (omega (arith, few)) ∙ moved-none stated)
  where
    moved-none : (zs : List ℤ) → moved [] zs ≡ zs
    moved-none [] = refl
    moved-none (z ∷ zs) = refl
moved-on_axes (suc axes) (o ∷ offset) (c ∷ stated) few =
    ap₂ (λ (z : ℤ) (zs : List ℤ). z ∷ zs) (omega (arith, ints)) (moved-on_axes axes offset stated (omega (arith, few)))

pub shifted-on_axes : (axes : ℕ) (offset shift : List ℤ) → added (added (replicate axes (pos 0)) offset) shift ≡ added (replicate axes (pos 0)) (shifted offset shift)
shifted-on_axes zero offset shift = refl
shifted-on_axes (suc axes) [] shift = refl
shifted-on_axes (suc axes) (o ∷ offset) [] = refl
shifted-on_axes (suc axes) (o ∷ offset) (s ∷ shift) =
    ap₂ (λ (z : ℤ) (zs : List ℤ). z ∷ zs) (omega (arith, ints)) (shifted-on_axes axes offset shift)

pub within-on_axes : (n axes : ℕ) (offset : List ℤ) → AreUpTo n offset → AreUpTo n (added (replicate axes (pos 0)) offset)
within-on_axes n zero offset h = All-nil (λ z. nat_abs z ≤ n)
within-on_axes n (suc axes) [] h =
    All-cons (λ z. nat_abs z ≤ n) (pos 0) (replicate axes (pos 0)) (omega (arith, ints))
    (zeros axes)
  where
    zeros : (k : ℕ) → AreUpTo n (replicate k (pos 0))
    zeros zero = All-nil (λ z. nat_abs z ≤ n)
    zeros (suc k) = All-cons (λ z. nat_abs z ≤ n) (pos 0) (replicate k (pos 0)) (omega (arith, ints)) (zeros k)
within-on_axes n (suc axes) (o ∷ offset) h =
    All-cons (λ z. nat_abs z ≤ n) (pos 0 +ℤ o) (added (replicate axes (pos 0)) offset)
    (let first = All-head (λ z. nat_abs z ≤ n) o offset h in omega (arith, ints, first))
    (within-on_axes n axes offset (All-tail (λ z. nat_abs z ≤ n) o offset h))
