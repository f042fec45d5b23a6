-- The mark of an instruction that makes faults is the number of its probability. A circuit has no more probabilities than steps.
use Rattle.std.proofs.Common.{◌≡◌, ◌<◌, ◌≤◌, ◌+◌, ◌*◌, ◌^◌, ◌==◌, ℕ, zero, suc, Bool, not, true, false, if◌then◌else◌, List, [], ◌∷◌, ◌++◌, length, Option, None, Some, refl, sym, ap, subst, ◌∙◌, append_assoc, append-nil, arith}
use Rattle.std.specs.Prelude.{is_some, slice_get, unwrap_or}
use Rattle.std.specs.List.{list_all}
use Rattle.std.proofs.lemmas.Bool.{and_parts, not-false, or_parts}
use Rattle.step_model.specs.declared.chances.ChanceText.{ChanceText}
use Rattle.step_model.specs.Chances.{Chance, chance_at}
use Rattle.step_model.specs.Probabilities.{probability_bound}
use Rattle.stim_lexer.specs.Fitting.{IsWritten}
use Rattle.stim_lexer.specs.Flat.{tree_of}
use Rattle.stim_lexer.specs.Marked.{Marked}
use Rattle.stim_lexer.specs.Reached.{total}
use Rattle.stim_lexer.specs.Trees.{Nothing, Then, Block, Item, BlockEnd, items_of}
use Rattle.stim_parser.specs.declared.operation.Operation.{Operation}
use Rattle.stim_parser.specs.declared.operation.Operation.TheVariants.{Applies, Measurement, QubitReset, MeasurementReset, ProductMeasurement, PauliError, CorrelatedError, DetectorDeclaration, ObservableInclude, Tick, QubitCoordinates, CoordinateShift}
use Rattle.stim_parser.specs.Circuits.{AllFit, Fits}
use Rattle.stim_parser.specs.Limits.{has_wrong_arguments, has_wrong_probability, is_probability}
use Rattle.stim_parser.specs.Probabilities.{Keeps, Marks, chance_in, chance_taken, instruction_count}
use Rattle.stim_parser.specs.Trees.{Tree}
use Rattle.stim_parser.specs.Verdicts.{Instruction, circuit_table}
use Rattle.circuit_walk.specs.Refusals.{circuit_refusal}
use Rattle.circuit_walk.specs.Totals.{first_argument, step_total}
use Rattle.circuit_walk.specs.private.InstructionSteps.{has_argument}
use Rattle.circuit_walk.specs.Makes.{makes_faults}
use Rattle.circuit_walk.proofs.WithinLimits.{within_limits}

-- ---- a number

-- a number is that of this probability
pub record IsNumberOf (texts : List ChanceText) (probability : List ℕ) (number : ℕ) : Type 0 where
  pub there : number < length texts
  pub text : (chance_at texts number).text ≡ probability
  pub bound : (chance_at texts number).bound ≡ unwrap_or (probability_bound probability) 0

bound_is : (o : Option ℕ) → is_some o ≡ true → o ≡ Some (unwrap_or o 0)
bound_is None h = absurd cc
bound_is (Some b) h = refl

number_of : (texts : List ChanceText) (p : List ℕ) (rest : List (List ℕ)) (mark : ℕ) → list_all is_probability (p ∷ rest) ≡ true → length texts ≤ 2 ^ 32 → Marks texts (chance_in (p ∷ rest)) mark → IsNumberOf texts p mark
number_of texts p rest mark accepted few marks =
    let bound = unwrap_or (probability_bound p) 0 in
    let known : chance_in (p ∷ rest) ≡ Some (record { text = p; bound = bound }) =
    rw (bound_is (probability_bound p) (and_parts (is_probability p) (list_all is_probability rest) accepted).0) refl in
    let is = subst (λ (chance : Option Chance). Marks texts chance mark) known marks few in
    record {
      there = is.0;
      text = ap (λ (c : Chance). c.text) is.1;
      bound = ap (λ (c : Chance). c.bound) is.1;
    }

-- of arguments of which there is one
some_number : (texts : List ChanceText) (arguments : List (List ℕ)) (mark : ℕ) → is_some (slice_get arguments 0) ≡ true → list_all is_probability arguments ≡ true → length texts ≤ 2 ^ 32 → Marks texts (chance_in arguments) mark → IsNumberOf texts (first_argument arguments) mark
some_number texts [] mark some accepted few marks = absurd cc
some_number texts (p ∷ rest) mark some accepted few marks = number_of texts p rest mark accepted few marks

one_some : (arguments : List (List ℕ)) → (length arguments == 1) ≡ true → is_some (slice_get arguments 0) ≡ true
one_some [] h = absurd cc
one_some (p ∷ rest) h = refl

if_true : (b : Bool) → (if b then true else false) ≡ true → b ≡ true
if_true true h = refl
if_true false h = absurd cc

none : (b : Bool) → (if b then false else false) ≡ true → ⊥
none true h = cc
none false h = cc

operation_number : (texts : List ChanceText) (i : Instruction) (o : Operation) (mark : ℕ) → i.operation ≡ o → Fits i → makes_faults o (has_argument i) ≡ true → length texts ≤ 2 ^ 32 → Marks texts (chance_taken circuit_table o i.arguments) mark → IsNumberOf texts (first_argument i.arguments) mark
unfolding has_wrong_arguments has_wrong_probability
operation_number texts i (Measurement l) mark is fits makes few marks =
    some_number texts i.arguments mark (if_true (has_argument i) makes) (not-false (list_all is_probability i.arguments) (rw is at fits.probability)) few marks
operation_number texts i (MeasurementReset l) mark is fits makes few marks =
    some_number texts i.arguments mark (if_true (has_argument i) makes) (not-false (list_all is_probability i.arguments) (rw is at fits.probability)) few marks
operation_number texts i ProductMeasurement mark is fits makes few marks =
    some_number texts i.arguments mark (if_true (has_argument i) makes) (not-false (list_all is_probability i.arguments) (rw is at fits.probability)) few marks
operation_number texts i (PauliError l) mark is fits makes few marks =
    let one = not-false (length i.arguments == 1) (or_parts (not (length i.arguments == 1)) _ (rw is at fits.arguments)).0 in
    some_number texts i.arguments mark (one_some i.arguments one) (not-false (list_all is_probability i.arguments) (rw is at fits.probability)) few marks
operation_number texts i CorrelatedError mark is fits makes few marks =
    let one = not-false (length i.arguments == 1) (or_parts (not (length i.arguments == 1)) _ (rw is at fits.arguments)).0 in
    some_number texts i.arguments mark (one_some i.arguments one) (not-false (list_all is_probability i.arguments) (rw is at fits.probability)) few marks
operation_number texts i (Applies g) mark is fits makes few marks = absurd (none (has_argument i) makes)
operation_number texts i (QubitReset l) mark is fits makes few marks = absurd (none (has_argument i) makes)
operation_number texts i DetectorDeclaration mark is fits makes few marks = absurd (none (has_argument i) makes)
operation_number texts i ObservableInclude mark is fits makes few marks = absurd (none (has_argument i) makes)
operation_number texts i Tick mark is fits makes few marks = absurd (none (has_argument i) makes)
operation_number texts i QubitCoordinates mark is fits makes few marks = absurd (none (has_argument i) makes)
operation_number texts i CoordinateShift mark is fits makes few marks = absurd (none (has_argument i) makes)

pub number_named : (texts : List ChanceText) (i : Instruction) (mark : ℕ) → Fits i → makes_faults i.operation (has_argument i) ≡ true → length texts ≤ 2 ^ 32 → Marks texts (chance_taken circuit_table i.operation i.arguments) mark → IsNumberOf texts (first_argument i.arguments) mark
number_named texts i mark fits makes few marks = operation_number texts i i.operation mark refl fits makes few marks

-- ---- how many

more_turns : (turns b : ℕ) → 0 < turns → b ≤ turns * (1 + b)
more_turns zero b h = absurd (omega (arith, h))
more_turns (suc m) b h = omega arith

-- each instruction that is written is a step
counted_before : (t : Tree) (rest : List (Item Instruction)) → AllFit t → instruction_count (items_of t ++ rest) ≤ step_total t + instruction_count rest
unfolding total
counted_before Nothing rest fit = omega arith
counted_before (Then i t) rest fit = omega (arith, counted_before t rest fit.1)
counted_before (Block line turns t u) rest fit =
    let items = append_assoc (items_of t) (BlockEnd ∷ items_of u) rest in
    let body = counted_before t (BlockEnd ∷ (items_of u ++ rest)) fit.1 in
    let later = counted_before u rest fit.2 in
    let turn = more_turns turns (step_total t) fit.0 in
    omega (arith, ap instruction_count items, body, later, turn)

pub few_texts : (texts : List ChanceText) (read : Marked Instruction) → IsWritten Fits read.items → Keeps circuit_table texts read → circuit_refusal (tree_of read.items) ≡ None → length texts ≤ 2 ^ 32
few_texts texts read written keeps accepted =
    let t = tree_of read.items in
    let counted = counted_before t [] written.fits.fit in
    omega (arith, keeps.few, ap instruction_count (sym (append-nil (items_of t) ∙ written.written)), counted, (within_limits t accepted).steps)
