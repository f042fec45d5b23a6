-- The error model that a text writes can be written.
use Rattle.std.proofs.Common.{◌≡◌, ℕ, zero, suc, ◌+◌, ◌≤◌, ◌<◌, ◌^◌, nat_lt, Bool, true, false, not, ◌&&◌, if◌then◌else◌, ℤ, nat_abs, List, [], ◌∷◌, map, length, filter, Option, None, Some, Result, Ok, Err, option_map, refl, ap, subst, sym, arith, All}
use Rattle.std.specs.Prelude.{slice_index_or}
use Rattle.std.specs.List.{list_any, list_all, range_with_len}
use Rattle.std.specs.Option.{option_or}
use Rattle.std.proofs.lemmas.Bool.{false≢true, ltb-false, or_parts}
use Rattle.std.proofs.lemmas.List.{length-map}
use Rattle.std.proofs.lemmas.List.Elements.{All-append, All-cons, All-filter, All-head, All-map, All-nil, All-tail, filter_passes}
use Rattle.std.proofs.lemmas.List.FromFn.{length-map-range_with_len}
use Rattle.std.proofs.lemmas.List.Kept.{IsStrictlyIncreasing-filter}
use Rattle.step_model.specs.declared.fault.Fault.{Fault}
use Rattle.step_model.specs.ErrorModels.{ErrorModel}
use Rattle.step_model.specs.Faults.{unless, ◌>>=◌}
use Rattle.step_model.specs.WellFormed.{CoordinatesFit}
use Rattle.step_model.proofs.RangeLemmas.{range_rises}
use Rattle.stim_parser.specs.Limits.{has_wrong_arguments, has_wrong_probability, is_probability}
use Rattle.stim_parser.specs.Numbers.{whole_value}
use Rattle.error_models.specs.ModelText.{model_text}
use Rattle.dem_text.specs.declared.operation.Operation.{Operation}
use Rattle.dem_text.specs.declared.operation.Operation.TheVariants.{PauliError, DetectorDeclaration, ObservableInclude, Shifts}
use Rattle.dem_text.specs.declared.target.Target.{Target}
use Rattle.dem_text.specs.Fitting.{AllFit, Fits}
use Rattle.dem_text.specs.private.Flat.{tree_of}
use Rattle.dem_text.specs.Limits.{has_target_beyond}
use Rattle.dem_text.specs.Meanings.{detector_count, error_line, error_lines, gives_coordinates, is_error, last_coordinates, meaning_of, observable_count}
use Rattle.dem_text.specs.Models.{first_beyond, is_beyond, is_coordinate_beyond, model_in, model_of_tree, placed_lines, refusal_of_tree}
use Rattle.dem_text.specs.Reached.{has_many_lines}
use Rattle.stim_lexer.specs.Reached.{copies, reached}
use Rattle.dem_text.specs.Shifts.{Placed, Shift, no_shift, placed_at, placed_from, shift_after}
use Rattle.stim_parser.specs.Offsets.{moved}
use Rattle.dem_text.specs.Texts.{Item, items_in}
use Rattle.dem_text.specs.Trees.{Tree}
use Rattle.stim_lexer.specs.Trees.{Nothing, Then, Block}
use Rattle.dem_text.specs.Verdicts.{Instruction}
use Rattle.dem_text.proofs.NearLemmas.{few-counts, near-first}
use Rattle.dem_text.proofs.TreeLemmas.{items_are_written}
use Rattle.dem_text.specs.Writable.{IsWritable, IsWritableLine}
use Rattle.dem_text.proofs.InstructionTexts.{instruction}
use Rattle.dem_text.proofs.MeaningLemmas.{reads_back}
use Rattle.dem_text.proofs.FlipLemmas.{all-below}

-- ---- instructions that are reached

copies_fit : (n : ℕ) (xs : List Instruction) → All Fits xs → All Fits (copies n xs)
copies_fit zero xs h = All-nil Fits
copies_fit (suc n) xs h = All-append Fits xs (copies n xs) h (copies_fit n xs h)

reached_fit : (tree : Tree) → AllFit tree → All Fits (reached tree)
reached_fit Nothing h = All-nil Fits
reached_fit (Then i rest) h = All-cons Fits i (reached rest) h.0 (reached_fit rest h.1)
reached_fit (Block line turns body rest) h =
    All-append Fits (copies turns (reached body)) (reached rest) (copies_fit turns (reached body) (reached_fit body h.1)) (reached_fit rest h.2)

-- ---- lines where they are reached

record IsSaid (p : Placed) : Type 0 where
  pub accepted : is_error p.operation ≡ true → is_probability p.text ≡ true
  pub few : length p.coordinates ≤ 16

length-moved : (offset stated : List ℤ) → length (moved offset stated) ≡ length stated
length-moved offset [] = refl
length-moved [] (c ∷ stated) = refl
length-moved (o ∷ offset) (c ∷ stated) = ap suc (length-moved offset stated)

first_holds : (a b : Bool) → not (a && b) ≡ false → a ≡ true
first_holds true b h = refl
first_holds false b h = absurd cc

error_accepted : (number : ℕ) (arguments : List (List ℕ)) (targets : List Target) → Fits (instruction number PauliError arguments targets) → is_probability (slice_index_or arguments 0 []) ≡ true
unfolding has_wrong_arguments has_wrong_probability
error_accepted number [] targets fits = let none = fits.arguments in absurd (false≢true (sym none))
error_accepted number (a ∷ arguments) targets fits = first_holds (is_probability a) (list_all is_probability arguments) fits.probability

few_said : (number : ℕ) (arguments : List (List ℕ)) (targets : List Target) (offset : List ℤ) → Fits (instruction number DetectorDeclaration arguments targets) → length (moved offset (map whole_value arguments)) ≤ 16
unfolding has_wrong_arguments
few_said number arguments targets offset fits =
    let few = ltb-false 16 (length arguments) (or_parts (nat_lt 16 (length arguments)) _ fits.arguments).0 in
    omega (arith, few, length-moved offset (map whole_value arguments), length-map arguments whole_value)

said : (s : Shift) (number : ℕ) (o : Operation) (arguments : List (List ℕ)) (targets : List Target) → Fits (instruction number o arguments targets) → IsSaid (placed_at s (instruction number o arguments targets))
said s number PauliError arguments targets fits = record { accepted = λ error. error_accepted number arguments targets fits; few = omega arith }
said s number DetectorDeclaration arguments targets fits =
    record { accepted = λ error. absurd (false≢true error); few = few_said number arguments targets s.offset fits }
said s number ObservableInclude arguments targets fits = record { accepted = λ error. absurd (false≢true error); few = omega arith }
said s number Shifts arguments targets fits = record { accepted = λ error. absurd (false≢true error); few = omega arith }

lines_said : (s : Shift) (instructions : List Instruction) → All Fits instructions → All IsSaid (placed_from s instructions)
unfolding placed_from
lines_said s [] h = All-nil IsSaid
lines_said s (i ∷ instructions) h =
    All-cons IsSaid (placed_at s i) (placed_from (shift_after i s) instructions) (said s i.line i.operation i.arguments i.targets (All-head Fits i instructions h))
    (lines_said (shift_after i s) instructions (All-tail Fits i instructions h))

-- ---- error lines

line_kept : (detectors observables : ℕ) (p : Placed) → is_probability p.text ≡ true → IsWritableLine (detectors + observables) (error_line detectors observables p)
line_kept detectors observables p accepted =
    record {
      accepted = accepted;
      ascending = IsStrictlyIncreasing-filter _ (range_with_len 0 (detectors + observables)) (range_rises 0 (detectors + observables));
      in_range = All-filter _ (λ t. t < detectors + observables) (range_with_len 0 (detectors + observables)) (all-below (detectors + observables));
    }

lines_writable : (detectors observables : ℕ) (lines : List Placed) → All IsSaid lines → All (IsWritableLine (detectors + observables)) (error_lines detectors observables lines)
lines_writable detectors observables lines h =
    let test : Placed → Bool = λ p. is_error p.operation in
    All-map (IsWritableLine (detectors + observables)) (error_line detectors observables) (filter test lines)
    (λ k e below. line_kept detectors observables (slice_index_or (filter test lines) k e) ((All-filter test IsSaid lines h k e below).accepted (filter_passes test lines k e below)))

-- ---- coordinates

none_far : (coordinates : List ℤ) → list_any is_coordinate_beyond coordinates ≡ false → All (λ c. nat_abs c < 10 ^ 18) coordinates
none_far [] h = All-nil (λ c. nat_abs c < 10 ^ 18)
none_far (c ∷ coordinates) h =
    let parts = or_parts (is_coordinate_beyond c) (list_any is_coordinate_beyond coordinates) h in
    let most = ltb-false 999_999_999_999_999_999 (nat_abs c) parts.0 in
    All-cons (λ c. nat_abs c < 10 ^ 18) c coordinates (omega (arith, most)) (none_far coordinates parts.1)

no_coordinates : CoordinatesFit []
no_coordinates = record { few = omega arith; within = All-nil (λ c. nat_abs c < 10 ^ 18) }

coordinates_kept : (p : Placed) → IsSaid p → is_beyond p ≡ false → CoordinatesFit p.coordinates
coordinates_kept p h near =
    record { few = h.few; within = none_far p.coordinates (or_parts (has_target_beyond p.targets) (list_any is_coordinate_beyond p.coordinates) near).1 }

last_kept : (d : ℕ) (found : List ℤ) (lines : List Placed) → CoordinatesFit found → All IsSaid lines → first_beyond lines ≡ None → CoordinatesFit (last_coordinates d found lines)
unfolding last_coordinates
last_kept d found [] fit h near = fit
last_kept d found (p ∷ lines) fit h near =
    last_kept d (if gives_coordinates d p then p.coordinates else found) lines (by (gives_coordinates d p)) (All-tail IsSaid p lines h) (near-first p lines near).1
  where
    by : (b : Bool) → CoordinatesFit (if b then p.coordinates else found)
    by true = coordinates_kept p (All-head IsSaid p lines h) (near-first p lines near).0
    by false = fit

-- ---- the model

meaning_writable : (lines : List Placed) → All IsSaid lines → first_beyond lines ≡ None → IsWritable (meaning_of lines)
meaning_writable lines h near =
    record {
      lines = lines_writable (detector_count lines) (observable_count lines) lines h;
      coordinates_given = length-map-range_with_len (λ d. last_coordinates d [] lines) 0 (detector_count lines);
      coordinates_fit = All-map CoordinatesFit (λ d. last_coordinates d [] lines) (range_with_len 0 (detector_count lines)) (λ k e below. last_kept _ [] lines no_coordinates h near);
      few_detectors = (few-counts lines near).0;
      few_observables = (few-counts lines near).1;
    }

not_refused : (refusal : Option Fault) (meaning model : ErrorModel) → unless refusal meaning ≡ Ok model → (refusal ≡ None) × (meaning ≡ model)
not_refused None meaning model h = (refl, cc)
not_refused (Some fault) meaning model h = absurd cc

none_mapped : {X Y : Type 0} (f : X → Y) (o : Option X) → option_map f o ≡ None → o ≡ None
none_mapped f None h = refl
none_mapped f (Some x) h = absurd cc

none_second : (b : Bool) (x : Fault) (o : Option Fault) → option_or (if b then Some x else None) o ≡ None → o ≡ None
none_second true x o h = absurd cc
none_second false x o h = h

tree_writable : (tree : Tree) (model : ErrorModel) → AllFit tree → model_of_tree tree ≡ Ok model → IsWritable model
tree_writable tree model fit h =
    let parts = not_refused (refusal_of_tree tree) (meaning_of (placed_lines tree)) model h in
    let near = none_mapped _ (first_beyond (placed_lines tree)) (none_second (has_many_lines tree) _ _ parts.0) in
    subst IsWritable parts.1 (meaning_writable (placed_lines tree) (lines_said no_shift (reached tree) (reached_fit tree fit)) near)

of_items : (text : List ℕ) (model : ErrorModel) (r : Result (List Item) Fault) → items_in text ≡ r → (r >>= (λ items. model_of_tree (tree_of items))) ≡ Ok model → IsWritable model
of_items text model (Ok items) e h = tree_writable (tree_of items) model (items_are_written text items e).fits.fit h
of_items text model (Err fault) e h = absurd cc

pub read_is_writable : (text : List ℕ) (model : ErrorModel) → model_in text ≡ Ok model → IsWritable model
read_is_writable text model h = of_items text model (items_in text) refl h

pub reads_again : (text : List ℕ) (model : ErrorModel) → model_in text ≡ Ok model → model_in (model_text model) ≡ Ok model
reads_again text model h = reads_back model (read_is_writable text model h)
