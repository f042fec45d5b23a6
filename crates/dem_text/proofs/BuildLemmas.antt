-- The error lines of lines as they are reached, appended one after another.
use Rattle.std.proofs.Common.{◌≡◌, ℕ, ◌≤◌, ℤ, List, [], ◌∷◌, ◌++◌, length, map, refl, ap, sym, ◌∙◌, append_assoc, append-nil, arith}
use Rattle.std.specs.Prelude.{filter}
use Rattle.std.specs.List.{range_with_len}
use Rattle.std.proofs.lemmas.List.{map-append}
use Rattle.std.proofs.lemmas.List.FromFn.{length-map-range_with_len}
use Rattle.step_model.specs.ErrorModels.{ErrorLine, ErrorModel}
use Rattle.dem_text.specs.Meanings.{detector_count, detectors_to, error_line, error_lines, is_error, last_coordinates, meaning_of, observable_count, observables_to}
use Rattle.stim_lexer.specs.Reached.{greatest_by}
use Rattle.dem_text.specs.Shifts.{Placed}
use Rattle.dem_text.specs.private.Counted.{AreCounts}
use Rattle.std.proofs.lemmas.List.Elements.{filter-append}

-- ---- more error lines

pub error_lines-append : (d o : ℕ) (xs ys : List Placed) → error_lines d o (xs ++ ys) ≡ error_lines d o xs ++ error_lines d o ys
error_lines-append d o xs ys =
    ap (map (error_line d o)) (filter-append (λ p. is_error p.operation) xs ys)
    ∙ map-append (error_line d o) (filter (λ p. is_error p.operation) xs) (filter (λ p. is_error p.operation) ys)

-- a model with more error lines
abbrev pub with_lines : ErrorModel → List ErrorLine → ErrorModel
with_lines model more = record model { lines = model.lines ++ more }

-- ---- lines one after another

-- the model so far, and the lines that are left
pub record IsUnrolling (d o : ℕ) (model : ErrorModel) (rest : List Placed) (whole : ErrorModel) : Type 0 where
  pub left : with_lines model (error_lines d o rest) ≡ whole
  pub low : detector_count rest ≤ d
  pub few : observable_count rest ≤ o

-- the line that is next names no more than all do
pub unrolling-here : (d o : ℕ) (model : ErrorModel) (rest rest' : List Placed) (whole : ErrorModel) (p : Placed) → IsUnrolling d o model rest whole → rest ≡ p ∷ rest'
    → (greatest_by detectors_to p.targets ≤ d) × (greatest_by observables_to p.targets ≤ o)
unrolling-here d o model rest rest' whole p h e =
    let detectors = ap (λ ps. detector_count ps) e in
    let observables = ap (λ ps. observable_count ps) e in
    (omega (arith, detectors, h.low), omega (arith, observables, h.few))

pub unrolling-next : (d o : ℕ) (model model' : ErrorModel) (rest rest' : List Placed) (whole : ErrorModel) (p : Placed)
    → IsUnrolling d o model rest whole → rest ≡ p ∷ rest' → model' ≡ with_lines model (error_lines d o (p ∷ [])) → IsUnrolling d o model' rest' whole
unrolling-next d o model model' rest rest' whole p h e more =
    let detectors = ap (λ ps. detector_count ps) e in
    let observables = ap (λ ps. observable_count ps) e in
    record {
      left = rw (more, append_assoc) (ap (with_lines model) (sym (error_lines-append d o (p ∷ []) rest') ∙ ap (error_lines d o) (sym e)) ∙ h.left);
      low = omega (arith, detectors, h.low);
      few = omega (arith, observables, h.few);
    }

pub unrolling-done : (d o : ℕ) (model : ErrorModel) (rest : List Placed) (whole : ErrorModel) → IsUnrolling d o model rest whole → rest ≡ [] → model ≡ whole
unrolling-done d o model rest whole h e =
    sym (ap (λ ps. with_lines model (error_lines d o ps)) e ∙ ap (λ (ls : List ErrorLine). record model { lines = ls }) (append-nil model.lines)) ∙ h.left

-- ---- the model of placed lines

pub built : (lines : List Placed) (d o errors : ℕ) (cs : List (List ℤ)) (start after : ErrorModel) → AreCounts lines d o errors
    → cs ≡ map (λ e. last_coordinates e [] lines) (range_with_len 0 d)
    → start ≡ record { lines = []; coordinates = cs; detectors = length cs; observables = o }
    → after ≡ with_lines start (error_lines d o lines) → after ≡ meaning_of lines
built lines d o errors cs start after are ec es h =
    h
    ∙ rw (es, ec, length-map-range_with_len (λ e. last_coordinates e [] lines) 0 d, are.detectors_are, are.observables_are) refl
