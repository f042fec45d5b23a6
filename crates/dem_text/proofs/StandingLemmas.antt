-- A line as it is reached, by what is known of it: whether a number of it is beyond its limit, and the counts with it.
use Rattle.std.proofs.Common.{◌≡◌, ℕ, suc, ◌+◌, ◌-◌, ◌<◌, ◌≤◌, ◌^◌, ◌||◌, Bool, true, false, not, ℤ, List, Option, None, Some, ap, ap₂, refl, subst, sym, ◌∙◌, arith}
use Rattle.std.specs.Prelude.{MatchOption, if◌then◌else◌, max, nat_lt}
use Rattle.std.specs.List.{list_any}
use Rattle.stim_lexer.specs.Reached.{greatest_by}
use Rattle.dem_text.specs.declared.brief.Brief.{Brief}
use Rattle.dem_text.specs.declared.operation.Operation.{Operation}
use Rattle.dem_text.specs.declared.operation.Operation.TheVariants.{PauliError, DetectorDeclaration, ObservableInclude, Shifts}
use Rattle.dem_text.specs.declared.standing.LineCounts.{LineCounts}
use Rattle.dem_text.specs.Limits.{has_target_beyond}
use Rattle.dem_text.specs.Meanings.{detectors_to, is_error, observables_to}
use Rattle.dem_text.specs.Models.{is_beyond, is_coordinate_beyond}
use Rattle.dem_text.specs.Shifts.{Shift, coordinates_given, placed_at, shift_after}
use Rattle.dem_text.specs.Verdicts.{Instruction}
use Rattle.dem_text.specs.private.Briefs.{IsBrief}
use Rattle.dem_text.specs.private.Folds.{counts_past}
use Rattle.dem_text.specs.private.Offsets.{HasRoom}
use Rattle.dem_text.specs.private.Tables.{coordinates_from, count_at, most_detectors, numbers_stated}
use Rattle.dem_text.proofs.ShiftLemmas.{room-next}
use Rattle.dem_text.proofs.TableLemmas.{detectors-placed, observables-known}

coordinates-stated : (o : Operation) (arguments : List (List ℕ)) (offset : List ℤ) → coordinates_from o (numbers_stated o arguments) offset ≡ coordinates_given o arguments offset
coordinates-stated PauliError arguments offset = refl
coordinates-stated DetectorDeclaration arguments offset = refl
coordinates-stated ObservableInclude arguments offset = refl
coordinates-stated Shifts arguments offset = refl

pub coordinates-known : (s : Shift) (i : Instruction) (b : Brief) (ns : List ℤ) → IsBrief i b ns → coordinates_from b.operation ns s.offset ≡ (placed_at s i).coordinates
coordinates-known s i b ns h =
    ap₂ (λ (o : Operation) (xs : List ℤ). coordinates_from o xs s.offset) h.operation_is h.known.numbers_are ∙ coordinates-stated i.operation i.arguments s.offset

-- what the count of shifted detectors says
abbrev pub IsShifted : ℕ → ℕ → Option ℕ → Type 0
IsShifted shift detectors found =
    MatchOption found (nat_lt most_detectors (count_at shift detectors) ≡ true) (λ n. (n ≡ count_at shift detectors) × (nat_lt most_detectors (count_at shift detectors) ≡ false))

pub far-detector : (s : Shift) (i : Instruction) (b : Brief) (ns : List ℤ) → IsBrief i b ns → IsShifted s.detectors b.extent.detectors None → is_beyond (placed_at s i) ≡ true
far-detector s i b ns h far =
    let beyond : has_target_beyond (placed_at s i).targets ≡ true = detectors-placed s i b.extent ns h.known None far in rw beyond refl

far-either : (a b : Bool) → false ≡ not b → a || b ≡ true
far-either true b e = refl
far-either false true e = refl
far-either false false e = absurd cc

pub far-coordinate : (s : Shift) (i : Instruction) (b : Brief) (ns : List ℤ) → IsBrief i b ns → (near : Bool) → near ≡ not (list_any is_coordinate_beyond (coordinates_from b.operation ns s.offset)) → near ≡ false → is_beyond (placed_at s i) ≡ true
far-coordinate s i b ns h near e f =
    far-either (has_target_beyond (placed_at s i).targets) (list_any is_coordinate_beyond (placed_at s i).coordinates)
    (sym f ∙ e ∙ ap (λ cs. not (list_any is_coordinate_beyond cs)) (coordinates-known s i b ns h))

near-both : (a b : Bool) → a ≡ false → true ≡ not b → a || b ≡ false
near-both true b e f = absurd cc
near-both false true e f = absurd cc
near-both false false e f = refl

pub near-line : (s : Shift) (i : Instruction) (b : Brief) (ns : List ℤ) → IsBrief i b ns → (n : ℕ) → IsShifted s.detectors b.extent.detectors (Some n) → (near : Bool) → near ≡ not (list_any is_coordinate_beyond (coordinates_from b.operation ns s.offset)) → near ≡ true
    → (c c' : LineCounts) → c'.detectors ≡ max c.detectors n → c'.observables ≡ max c.observables b.extent.observables → c'.errors ≡ (if is_error b.operation then c.errors + 1 else c.errors)
    → (c' ≡ counts_past (placed_at s i) c) × (is_beyond (placed_at s i) ≡ false)
near-line s i b ns h n within near e f c c' d o k =
    let p = placed_at s i in
    let found = detectors-placed s i b.extent ns h.known (Some n) within in
    let ds : c'.detectors ≡ max c.detectors (greatest_by detectors_to p.targets) = d ∙ ap (max c.detectors) found.0 in
    let os : c'.observables ≡ max c.observables (greatest_by observables_to p.targets) = o ∙ ap (max c.observables) (observables-known s i b.extent ns h.known) in
    let es : c'.errors ≡ (if is_error i.operation then c.errors + 1 else c.errors) = k ∙ ap (λ (x : Operation). if is_error x then c.errors + 1 else c.errors) h.operation_is in (
      same c' _ _ _ ds os es,
      near-both (has_target_beyond p.targets) (list_any is_coordinate_beyond p.coordinates) found.1 (sym f ∙ e ∙ ap (λ cs. not (list_any is_coordinate_beyond cs)) (coordinates-known s i b ns h)),
    )
  where
    same : (x : LineCounts) (d o k : ℕ) → x.detectors ≡ d → x.observables ≡ o → x.errors ≡ k → x ≡ record { detectors = d; observables = o; errors = k }
    same x d o k e f g = rw (sym e, sym f, sym g) refl

-- ---- room for the shifts of lines

pub room-past : (i : Instruction) (b : Brief) (ns : List ℤ) (s : Shift) (passed : ℕ) → IsBrief i b ns → HasRoom s (2 ^ 64 - passed) → passed + 1 < 2 ^ 64 → HasRoom (shift_after i s) (2 ^ 64 - (passed + 1))
room-past i b ns s passed h room few =
    let more : 2 ^ 64 - passed ≡ suc (2 ^ 64 - (passed + 1)) = omega (arith, few) in
    room-next i b.extent ns s (2 ^ 64 - (passed + 1)) h.known (subst (HasRoom s) more room)

-- no more error lines than lines
pub errors-past : (b : Bool) (errors passed : ℕ) → errors ≤ passed → (if b then errors + 1 else errors) ≤ passed + 1
errors-past true errors passed h = omega (arith, h)
errors-past false errors passed h = omega (arith, h)
