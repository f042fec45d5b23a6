-- The bits that a fold leaves of a model none of whose lines is beyond its limits: each says whether an odd number of the error
-- lines that are named name its place. Observables stand behind as many detectors as there may be, or behind those of the model.
use Rattle.std.proofs.Common.{◌≡◌, ℕ, ◌+◌, ◌==◌, ◌<◌, ◌≤◌, Bool, true, false, ◌&&◌, if◌then◌else◌, List, [], ◌∷◌, length, map, None, refl, ap, ap₂, sym, ◌∙◌, inl, inr, arith}
use Rattle.std.specs.Prelude.{cond, filter}
use Rattle.std.specs.List.{range_with_len}
use Rattle.std.proofs.lemmas.Bool.{cases_eq, eq-eqb, ne_eqb}
use Rattle.pauli_word.specs.Parity.{exclusive_or}
use Rattle.stim_lexer.specs.Reached.{greatest_by}
use Rattle.step_model.specs.Targets.{is_listed}
use Rattle.step_model.proofs.MemberLemmas.{listed_in_range, map_agree}
use Rattle.dem_text.specs.declared.operation.Operation.{Operation}
use Rattle.dem_text.specs.declared.operation.Operation.TheVariants.{PauliError, DetectorDeclaration, ObservableInclude, Shifts}
use Rattle.dem_text.specs.declared.standing.Standing.{Standing}
use Rattle.dem_text.specs.declared.target.Target.{Target}
use Rattle.dem_text.specs.declared.target.Target.TheVariants.{Plain, Detector, Observable, Separator}
use Rattle.dem_text.specs.Meanings.{detector_count, detectors_to, error_line, error_lines, is_error}
use Rattle.dem_text.specs.Models.{first_beyond, is_beyond}
use Rattle.dem_text.specs.NamedLines.{is_among}
use Rattle.dem_text.specs.Shifts.{Placed, Shift, placed_at, placed_from, shift_after, shifted_by, shifted_target}
use Rattle.dem_text.specs.Sums.{is_in_symptom}
use Rattle.dem_text.specs.Verdicts.{Instruction}
use Rattle.dem_text.specs.private.Folds.{Folded, counts_past, fold_after, fold_over, is_asked, places_of, stand_after}
use Rattle.dem_text.specs.private.Numbered.{numbers_of}
use Rattle.dem_text.specs.private.Tables.{most_detectors}
use Rattle.dem_text.specs.private.Turned.{turned}
use Rattle.dem_text.proofs.NearLemmas.{near-first}
use Rattle.dem_text.proofs.SumLemmas.{named-map, swapped}

-- whether an odd number of the error lines that are named, before which there were so many, name a place, where observables
-- stand behind `base` detectors
abbrev pub names_oddly : ℕ → List ℕ → ℕ → List Placed → ℕ → Bool
names_oddly base named errors [] t = false
names_oddly base named errors (p ∷ lines) t =
    exclusive_or ((is_error p.operation && is_among named errors) && is_listed (numbers_of base p.targets) t)
    (names_oddly base named (if is_error p.operation then errors + 1 else errors) lines t)

-- ---- the fold

-- an error line leaves the shift as it was
error-places : (o : Operation) (arguments : List (List ℕ)) (targets : List Target) (s : Shift) (c : Bool) (bits : List Bool)
    → (if is_error o && c then turned bits (numbers_of most_detectors (map (shifted_target (shifted_by o arguments targets s).detectors) targets)) else bits)
    ≡ (if is_error o && c then turned bits (numbers_of most_detectors (map (shifted_target s.detectors) targets)) else bits)
error-places PauliError arguments targets s c bits = refl
error-places DetectorDeclaration arguments targets s c bits = refl
error-places ObservableInclude arguments targets s c bits = refl
error-places Shifts arguments targets s c bits = refl

-- whether a line is asked, and the bits behind it
abbrev is_named : List ℕ → Standing → Instruction → Bool
is_named named s i = is_error i.operation && is_among named s.counts.errors

abbrev bit_behind : List ℕ → Standing → Instruction → (ℕ → Bool) → ℕ → Bool
bit_behind named s i g t = exclusive_or (is_named named s i && is_listed (numbers_of most_detectors (placed_at s.shift i).targets) t) (g t)

abbrev stands_behind : Standing → Instruction → Standing
stands_behind s i =
    record { shift = shift_after i s.shift; counts = counts_past (placed_at s.shift i) s.counts; passed = s.passed + 1; beyond = None }

abbrev fold_behind : List ℕ → ℕ → Standing → Instruction → (ℕ → Bool) → Folded
fold_behind named n s i g = record { standing = stands_behind s i; bits = map (bit_behind named s i g) (range_with_len 0 n) }

fold-line : (named : List ℕ) (n : ℕ) (f : Folded) (i : Instruction) (g : ℕ → Bool) → f.standing.beyond ≡ None → is_beyond (placed_at f.standing.shift i) ≡ false → f.bits ≡ map g (range_with_len 0 n)
    → fold_after named f i ≡ fold_behind named n f.standing i g
fold-line named n f i g none near bits = ap₂ (λ (x : Standing) (bs : List Bool). record { standing = x; bits = bs }) stands_is bits_is
  where
    s : Standing
    s = f.standing

    targets : List ℕ
    targets = numbers_of most_detectors (placed_at s.shift i).targets

    stands_is : stand_after i s ≡ stands_behind s i
    stands_is = rw (none, near) refl

    asked_is : is_asked named s i ≡ is_named named s i
    asked_is = rw (none, near) refl

    bits_is : (fold_after named f i).bits ≡ map (bit_behind named s i g) (range_with_len 0 n)
    bits_is =
        ap₂ (λ (b : Bool) (x : Standing). if b then turned f.bits (places_of x.shift i) else f.bits) asked_is stands_is
        ∙ error-places i.operation i.arguments i.targets s.shift (is_among named s.counts.errors) f.bits
        ∙ ap (λ bs. if is_named named s i then turned bs targets else bs) bits
        ∙ named-map g n (is_named named s i) targets

pub fold-bits : (named : List ℕ) (n : ℕ) (is : List Instruction) (f : Folded) (g : ℕ → Bool) → f.standing.beyond ≡ None → first_beyond (placed_from f.standing.shift is) ≡ None → f.bits ≡ map g (range_with_len 0 n)
    → (fold_over named f is).bits ≡ map (λ t. exclusive_or (names_oddly most_detectors named f.standing.counts.errors (placed_from f.standing.shift is) t) (g t)) (range_with_len 0 n)
unfolding placed_from
fold-bits named n [] f g none near bits = bits
fold-bits named n (i ∷ is) f g none near bits =
    let s = f.standing in
    let p = placed_at s.shift i in
    let rest = placed_from (shift_after i s.shift) is in
    let parts = near-first p rest near in
    let next = fold_behind named n s i g in
    ap (λ (x : Folded). (fold_over named x is).bits) (fold-line named n f i g none parts.0 bits)
    ∙ fold-bits named n is next (bit_behind named s i g) refl parts.1 refl
    ∙ map_agree _ _ (λ t. swapped (names_oddly most_detectors named next.standing.counts.errors rest t) (is_named named s i && is_listed (numbers_of most_detectors p.targets) t) (g t)) (range_with_len 0 n)

-- ---- the places of targets

-- a detector has the same place wherever observables begin behind it
listed-low : (a b : ℕ) (targets : List Target) (t : ℕ) → t < a → t < b → is_listed (numbers_of a targets) t ≡ is_listed (numbers_of b targets) t
listed-low a b [] t h k = refl
listed-low a b (Plain n ∷ ts) t h k = listed-low a b ts t h k
listed-low a b (Detector d ∷ ts) t h k = ap (exclusive_or (d == t)) (listed-low a b ts t h k)
listed-low a b (Observable o ∷ ts) t h k =
    ap₂ exclusive_or (ne_eqb (a + o) t (λ e. absurd (omega (arith, e, h))) ∙ sym (ne_eqb (b + o) t (λ e. absurd (omega (arith, e, k)))))
    (listed-low a b ts t h k)
listed-low a b (Separator ∷ ts) t h k = listed-low a b ts t h k

same-number : (a b k l : ℕ) → (a + k == a + l) ≡ (b + k == b + l)
same-number a b k l =
    elim (cases_eq k l) [
      | inl e ↦ eq-eqb (a + k) (a + l) (omega (arith, e)) ∙ sym (eq-eqb (b + k) (b + l) (omega (arith, e)))
      | inr other ↦
          ne_eqb (a + k) (a + l) (λ e. other (omega (arith, e))) ∙ sym (ne_eqb (b + k) (b + l) (λ e. other (omega (arith, e))))
    ]

listed-high : (a b : ℕ) (targets : List Target) (k : ℕ) → greatest_by detectors_to targets ≤ a → greatest_by detectors_to targets ≤ b → is_listed (numbers_of a targets) (a + k) ≡ is_listed (numbers_of b targets) (b + k)
listed-high a b [] k h j = refl
listed-high a b (Plain n ∷ ts) k h j = listed-high a b ts k (omega (arith, h)) (omega (arith, j))
listed-high a b (Detector d ∷ ts) k h j =
    ap₂ exclusive_or (ne_eqb d (a + k) (λ e. absurd (omega (arith, e, h))) ∙ sym (ne_eqb d (b + k) (λ e. absurd (omega (arith, e, j)))))
    (listed-high a b ts k (omega (arith, h)) (omega (arith, j)))
listed-high a b (Observable o ∷ ts) k h j =
    ap₂ exclusive_or (same-number a b o k) (listed-high a b ts k (omega (arith, h)) (omega (arith, j)))
listed-high a b (Separator ∷ ts) k h j = listed-high a b ts k (omega (arith, h)) (omega (arith, j))

pub oddly-low : (a b : ℕ) (named : List ℕ) (errors : ℕ) (lines : List Placed) (t : ℕ) → t < a → t < b → names_oddly a named errors lines t ≡ names_oddly b named errors lines t
oddly-low a b named errors [] t h k = refl
oddly-low a b named errors (p ∷ lines) t h k =
    ap₂ (λ (c d : Bool). exclusive_or ((is_error p.operation && is_among named errors) && c) d) (listed-low a b p.targets t h k)
    (oddly-low a b named (if is_error p.operation then errors + 1 else errors) lines t h k)

pub oddly-high : (a b : ℕ) (named : List ℕ) (errors : ℕ) (lines : List Placed) (k : ℕ) → detector_count lines ≤ a → detector_count lines ≤ b → names_oddly a named errors lines (a + k) ≡ names_oddly b named errors lines (b + k)
oddly-high a b named errors [] k h j = refl
oddly-high a b named errors (p ∷ lines) k h j =
    ap₂ (λ (c d : Bool). exclusive_or ((is_error p.operation && is_among named errors) && c) d) (listed-high a b p.targets k (omega (arith, h)) (omega (arith, j)))
    (oddly-high a b named (if is_error p.operation then errors + 1 else errors) lines k (omega (arith, h)) (omega (arith, j)))

-- ---- the lines of the model

-- what error lines flip is what their targets name an odd number of times
pub oddly-flipped : (d o : ℕ) (named : List ℕ) (errors : ℕ) (lines : List Placed) (t : ℕ) → t < d + o
    → is_in_symptom (map (is_among named) (range_with_len errors (length (error_lines d o lines)))) (error_lines d o lines) t ≡ names_oddly d named errors lines t
oddly-flipped d o named errors [] t h = refl
oddly-flipped d o named errors (p ∷ lines) t h =
    elim (is_error p.operation)
    as (λ b. is_in_symptom (map (is_among named) (range_with_len errors (length (map (error_line d o) (cond b (p ∷ found) found))))) (map (error_line d o) (cond b (p ∷ found) found)) t
    ≡ exclusive_or ((b && is_among named errors) && is_listed (numbers_of d p.targets) t) (names_oddly d named (if b then errors + 1 else errors) lines t)) [
      | true ↦
          ap₂ (λ (x y : Bool). exclusive_or (is_among named errors && x) y) (listed_in_range (λ u. is_listed (numbers_of d p.targets) u) t 0 (d + o) (omega arith) (omega (arith, h)))
          (oddly-flipped d o named (errors + 1) lines t h)
      | false ↦ oddly-flipped d o named errors lines t h
    ]
  where
    found : List Placed
    found = filter (λ q. is_error q.operation) lines
