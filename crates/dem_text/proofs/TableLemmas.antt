-- What is worked out once of each line of an error model, and what that gives of the line as it is reached.
use Rattle.std.proofs.Common.{◌≡◌, ℕ, zero, suc, ◌+◌, ◌≤◌, ◌||◌, Bool, true, false, ℤ, List, [], ◌∷◌, Option, None, Some, length, map, refl, ap, ap₂, subst, sym, ◌∙◌, arith}
use Rattle.std.specs.Prelude.{MatchOption, max, nat_lt}
use Rattle.std.specs.List.{list_any}
use Rattle.std.proofs.lemmas.Bool.{ltb-false}
use Rattle.std.proofs.lemmas.Bool.Decides.{nat_tests}
use Rattle.std.proofs.lemmas.List.{length-map}
use Rattle.stim_parser.specs.declared.table.Keyword.TheVariants as Keyword
use Rattle.stim_parser.specs.Limits.{has_argument_beyond}
use Rattle.stim_parser.specs.Numbers.{greatest_number, whole_value}
use Rattle.dem_text.specs.Instructions.{argument_form}
use Rattle.dem_text.specs.declared.operation.Operation.{Operation}
use Rattle.dem_text.specs.declared.operation.Operation.TheVariants.{PauliError, DetectorDeclaration, ObservableInclude, Shifts}
use Rattle.dem_text.specs.declared.target.Target.{Target}
use Rattle.dem_text.specs.declared.target.Target.TheVariants.{Plain, Detector, Observable, Separator}
use Rattle.dem_text.specs.Fitting.{Fits}
use Rattle.dem_text.specs.Limits.{has_target_beyond, is_target_beyond}
use Rattle.dem_text.specs.Verdicts.{Instruction}
use Rattle.dem_text.specs.declared.brief.Extent.{Extent}
use Rattle.dem_text.specs.Meanings.{detectors_to, observables_to}
use Rattle.stim_lexer.specs.Reached.{greatest_by}
use Rattle.dem_text.specs.Shifts.{Shift, placed_at, shifted_target}
use Rattle.dem_text.specs.private.Tables.{IsKnown, count_at, most_detectors, numbers_of_line, numbers_stated}
use Rattle.dem_text.specs.private.Offsets.{AreSmall}
use Rattle.dem_text.proofs.ShiftLemmas.{few_arguments, left, right, small_values}

-- ---- what is known of an instruction that fits

-- the numbers that an instruction states are few and small
pub numbers-right : (i : Instruction) → Fits i → (length (numbers_of_line i) ≤ 16) × AreSmall (numbers_of_line i)
numbers-right i fits = stated i.operation i.arguments (few_arguments i fits) fits.arguments_within
  where
    stated : (operation : Operation) (arguments : List (List ℕ)) → length arguments ≤ 16 → has_argument_beyond greatest_number (argument_form (Keyword.Does operation)) arguments ≡ false
        → (length (numbers_stated operation arguments) ≤ 16) × AreSmall (numbers_stated operation arguments)
    stated PauliError arguments few within = (omega arith, λ k d below. absurd (omega (arith, below)))
    stated DetectorDeclaration arguments few within = (let same = length-map arguments whole_value in omega (arith, same, few), small_values arguments within)
    stated ObservableInclude arguments few within = (omega arith, λ k d below. absurd (omega (arith, below)))
    stated Shifts arguments few within = (let same = length-map arguments whole_value in omega (arith, same, few), small_values arguments within)

-- ---- targets that are shifted

count-max : (s a b : ℕ) → max (count_at s a) (count_at s b) ≡ count_at s (max a b)
count-max s zero b = let same : max 0 b ≡ b = omega arith in omega arith ∙ ap (count_at s) (sym same)
count-max s (suc a) zero = let same : max (suc a) 0 ≡ suc a = omega arith in omega arith ∙ ap (count_at s) (sym same)
count-max s (suc a) (suc b) =
    let same : max (suc a) (suc b) ≡ suc (max a b) = omega arith in
    let sum : max (suc a + s) (suc b + s) ≡ suc (max a b) + s = omega arith in
    sum ∙ ap (count_at s) (sym same)

pub counted : (s : ℕ) (ts : List Target) → greatest_by detectors_to (map (shifted_target s) ts) ≡ count_at s (greatest_by detectors_to ts)
counted s [] = refl
counted s (Plain n ∷ ts) = ap (max 0) (counted s ts) ∙ count-max s 0 (greatest_by detectors_to ts)
counted s (Detector d ∷ ts) =
    let same : suc d ≡ d + 1 = omega arith in
    let one : d + s + 1 ≡ suc d + s = omega arith in
    ap (λ n. max n (greatest_by detectors_to (map (shifted_target s) ts))) (one ∙ ap (count_at s) same)
    ∙ ap (max (count_at s (d + 1))) (counted s ts)
    ∙ count-max s (d + 1) (greatest_by detectors_to ts)
counted s (Observable k ∷ ts) = ap (max 0) (counted s ts) ∙ count-max s 0 (greatest_by detectors_to ts)
counted s (Separator ∷ ts) = ap (max 0) (counted s ts) ∙ count-max s 0 (greatest_by detectors_to ts)

pub observables-stay : (s : ℕ) (ts : List Target) → greatest_by observables_to (map (shifted_target s) ts) ≡ greatest_by observables_to ts
observables-stay s [] = refl
observables-stay s (Plain n ∷ ts) = ap (max 0) (observables-stay s ts)
observables-stay s (Detector d ∷ ts) = ap (max 0) (observables-stay s ts)
observables-stay s (Observable k ∷ ts) = ap (max (k + 1)) (observables-stay s ts)
observables-stay s (Separator ∷ ts) = ap (max 0) (observables-stay s ts)

either-above : (m : ℕ) (a b : Bool) (x y : ℕ) → a ≡ nat_lt m x → b ≡ nat_lt m y → a || b ≡ nat_lt m (max x y)
either-above m a b x y e f = grind (arith, nat_tests)

one-more : (m d : ℕ) → nat_lt m d ≡ nat_lt (m + 1) (d + 1)
one-more m d = grind (arith, nat_tests)

far-targets : (s : ℕ) (ts : List Target) → list_any is_target_beyond ts ≡ false
    → list_any is_target_beyond (map (shifted_target s) ts) ≡ nat_lt most_detectors (greatest_by detectors_to (map (shifted_target s) ts))
far-targets s [] h = refl
far-targets s (Plain n ∷ ts) h =
    either-above most_detectors _ _ 0 _ (left (is_target_beyond (Plain n)) _ h) (far-targets s ts (right (is_target_beyond (Plain n)) _ h))
far-targets s (Detector d ∷ ts) h =
    either-above most_detectors _ _ (d + s + 1) _ (one-more 999_999 (d + s)) (far-targets s ts (right (is_target_beyond (Detector d)) _ h))
far-targets s (Observable k ∷ ts) h =
    either-above most_detectors _ _ 0 _ (left (is_target_beyond (Observable k)) _ h) (far-targets s ts (right (is_target_beyond (Observable k)) _ h))
far-targets s (Separator ∷ ts) h = either-above most_detectors _ _ 0 _ refl (far-targets s ts h)

-- ---- targets within their limits

pub few-named : (ts : List Target) → has_target_beyond ts ≡ false → (greatest_by detectors_to ts ≤ 1_000_000) × (greatest_by observables_to ts ≤ 1024)
unfolding has_target_beyond
few-named [] h = (omega arith, omega arith)
few-named (Plain n ∷ ts) h =
    let rest = few-named ts (right (is_target_beyond (Plain n)) _ h) in (omega (arith, rest.0), omega (arith, rest.1))
few-named (Detector d ∷ ts) h =
    let rest = few-named ts (right (is_target_beyond (Detector d)) _ h) in
    let here = ltb-false 999_999 d (left (is_target_beyond (Detector d)) _ h) in (
      omega (arith, rest.0, here),
      omega (arith, rest.1),
    )
few-named (Observable k ∷ ts) h =
    let rest = few-named ts (right (is_target_beyond (Observable k)) _ h) in
    let here = ltb-false 1023 k (left (is_target_beyond (Observable k)) _ h) in (
      omega (arith, rest.0),
      omega (arith, rest.1, here),
    )
few-named (Separator ∷ ts) h = let rest = few-named ts h in (omega (arith, rest.0), omega (arith, rest.1))

-- ---- a line as it is reached

targets-beyond : (s : Shift) (i : Instruction) (e : Extent) (ns : List ℤ) → IsKnown i e ns
    → has_target_beyond (placed_at s i).targets ≡ nat_lt most_detectors (count_at s.detectors e.detectors)
unfolding has_target_beyond
targets-beyond s i e ns known =
    far-targets s.detectors i.targets known.within
    ∙ ap (nat_lt most_detectors) (counted s.detectors i.targets ∙ ap (λ (x : Extent). count_at s.detectors x.detectors) (sym known.extent_is))

detectors-known : (s : Shift) (i : Instruction) (e : Extent) (ns : List ℤ) → IsKnown i e ns
    → count_at s.detectors e.detectors ≡ greatest_by detectors_to (placed_at s i).targets
detectors-known s i e ns known =
    ap (λ (x : Extent). count_at s.detectors x.detectors) known.extent_is ∙ sym (counted s.detectors i.targets)

pub detectors-placed : (s : Shift) (i : Instruction) (e : Extent) (ns : List ℤ) → IsKnown i e ns → (found : Option ℕ)
    → MatchOption found (nat_lt most_detectors (count_at s.detectors e.detectors) ≡ true) (λ n. (n ≡ count_at s.detectors e.detectors) × (nat_lt most_detectors (count_at s.detectors e.detectors) ≡ false))
    → MatchOption found (has_target_beyond (placed_at s i).targets ≡ true) (λ n. (n ≡ greatest_by detectors_to (placed_at s i).targets) × (has_target_beyond (placed_at s i).targets ≡ false))
detectors-placed s i e ns known None far = targets-beyond s i e ns known ∙ far
detectors-placed s i e ns known (Some n) near = (near.0 ∙ detectors-known s i e ns known, targets-beyond s i e ns known ∙ near.1)

pub observables-known : (s : Shift) (i : Instruction) (e : Extent) (ns : List ℤ) → IsKnown i e ns
    → e.observables ≡ greatest_by observables_to (placed_at s i).targets
observables-known s i e ns known =
    ap (λ (x : Extent). x.observables) known.extent_is ∙ sym (observables-stay s.detectors i.targets)

-- all is known of an instruction that fits, with what was worked out of it
pub known-fitting : (i : Instruction) (e : Extent) (ns : List ℤ) → Fits i → e.detectors ≡ greatest_by detectors_to i.targets → e.observables ≡ greatest_by observables_to i.targets → ns ≡ numbers_of_line i
    → IsKnown i e ns
known-fitting i e ns fits detectors observables numbers =
    let right = numbers-right i fits in
    record {
      extent_is = ap₂ (λ (d o : ℕ). record { detectors = d; observables = o }) detectors observables;
      numbers_are = numbers;
      within = fits.targets_within;
      few = subst (λ (ms : List ℤ). length ms ≤ 16) (sym numbers) right.0;
      small = subst AreSmall (sym numbers) right.1;
    }
