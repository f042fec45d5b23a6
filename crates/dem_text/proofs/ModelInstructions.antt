-- The instructions of an error model's text: one for each error line, then one for each detector, then one for each
-- observable. Their text is the model's.
use Rattle.std.proofs.Common.{◌≡◌, ℕ, ◌-◌, nat_lt, if◌then◌else◌, ℤ, List, [], ◌∷◌, ◌++◌, map, codes, decimal, refl, ap, ap₂, sym, ◌∙◌, append_assoc, append-nil, inl, inr}
use Rattle.std.specs.Prelude.{slice_index_or}
use Rattle.std.specs.Fmt.{signed_decimal}
use Rattle.std.specs.List.{flat_map, range_with_len}
use Rattle.std.proofs.lemmas.Bool.{cases_Bool}
use Rattle.step_model.specs.ErrorModels.{ErrorLine, ErrorModel}
use Rattle.error_models.specs.ModelText.{coordinates_text, detector_text, detectors_text, line_text, lines_text, model_text, more_coordinates_text, observable_text, observables_text, target_text, targets_text}
use Rattle.dem_text.specs.declared.operation.Operation.TheVariants.{PauliError, DetectorDeclaration, ObservableInclude}
use Rattle.dem_text.specs.declared.target.Target.{Target}
use Rattle.dem_text.specs.declared.target.Target.TheVariants.{Detector, Observable}
use Rattle.dem_text.specs.Verdicts.{Instruction}
use Rattle.stim_parser.specs.Written.{in_parentheses, more_arguments}
use Rattle.dem_text.proofs.InstructionTexts.{instruction, instruction_line, target_word, target_words}
use Rattle.dem_text.proofs.TextReadLemmas.{text_of}

-- the target of a number, where there are so many detectors
abbrev pub target_of_number : ℕ → ℕ → Target
target_of_number detectors t = if nat_lt t detectors then Detector t else Observable (t - detectors)

abbrev pub error_instruction : ℕ → ErrorLine → Instruction
error_instruction detectors line = instruction 0 PauliError (line.text ∷ []) (map (target_of_number detectors) line.targets)

abbrev pub detector_instruction : List (List ℤ) → ℕ → Instruction
detector_instruction coordinates d = instruction 0 DetectorDeclaration (map signed_decimal (slice_index_or coordinates d [])) (Detector d ∷ [])

abbrev pub observable_instruction : ℕ → Instruction
observable_instruction k = instruction 0 ObservableInclude [] (Observable k ∷ [])

abbrev pub error_instructions : ErrorModel → List Instruction
error_instructions model = map (error_instruction model.detectors) model.lines

abbrev pub detector_instructions : ErrorModel → List Instruction
detector_instructions model = map (detector_instruction model.coordinates) (range_with_len 0 model.detectors)

abbrev pub observable_instructions : ErrorModel → List Instruction
observable_instructions model = map observable_instruction (range_with_len 0 model.observables)

abbrev pub instructions_of : ErrorModel → List Instruction
instructions_of model = error_instructions model ++ (detector_instructions model ++ observable_instructions model)

-- ---- one line

one_target : (detectors t : ℕ) → 32 ∷ target_word (target_of_number detectors t) ≡ target_text detectors t
one_target detectors t = elim (cases_Bool (nat_lt t detectors)) [ inl e ↦ rw e refl | inr e ↦ rw e refl ]

all_targets : (detectors : ℕ) (targets : List ℕ) → target_words (map (target_of_number detectors) targets) ≡ targets_text detectors targets
all_targets detectors [] = refl
all_targets detectors (t ∷ targets) = ap₂ (λ (xs ys : List ℕ). xs ++ ys) (one_target detectors t) (all_targets detectors targets)

-- a text in parentheses, and what follows it up to the line's end and behind that
error_end : (text words rest : List ℕ) → (((text ++ []) ++ 41 ∷ []) ++ words) ++ 10 ∷ rest ≡ (((text ++ 41 ∷ []) ++ words) ++ 10 ∷ []) ++ rest
error_end text words rest = simp (append_assoc, append-nil)

error_line_text : (detectors : ℕ) (line : ErrorLine) (rest : List ℕ)
    → instruction_line PauliError (line.text ∷ []) (map (target_of_number detectors) line.targets) ++ 10 ∷ rest ≡ line_text detectors line ++ rest
error_line_text detectors line rest =
    rw (all_targets detectors line.targets) (ap (λ (t : List ℕ). codes "error(" ++ t) (error_end line.text (targets_text detectors line.targets) rest))

more_text : (coordinates : List ℤ) → more_arguments (map signed_decimal coordinates) ≡ more_coordinates_text coordinates
more_text [] = refl
more_text (c ∷ coordinates) = ap (λ (t : List ℕ). 44 ∷ 32 ∷ (signed_decimal c ++ t)) (more_text coordinates)

parentheses_text : (coordinates : List ℤ) → in_parentheses (map signed_decimal coordinates) ≡ coordinates_text coordinates
parentheses_text [] = refl
parentheses_text (c ∷ coordinates) = ap (λ (t : List ℕ). 40 ∷ ((signed_decimal c ++ t) ++ 41 ∷ [])) (more_text coordinates)

-- a detector alone, and the line's end and what follows
target_end : (before number rest : List ℕ) → (before ++ (32 ∷ 68 ∷ (number ++ []))) ++ 10 ∷ rest ≡ (((before ++ (32 ∷ 68 ∷ [])) ++ number) ++ 10 ∷ []) ++ rest
target_end before number rest = simp (append_assoc, append-nil)

detector_line_text : (d : ℕ) (coordinates : List ℤ) (rest : List ℕ)
    → instruction_line DetectorDeclaration (map signed_decimal coordinates) (Detector d ∷ []) ++ 10 ∷ rest ≡ detector_text d coordinates ++ rest
detector_line_text d coordinates rest =
    rw (parentheses_text coordinates) (ap (λ (t : List ℕ). codes "detector" ++ t) (target_end (coordinates_text coordinates) (decimal d) rest))

observable_line_text : (k : ℕ) (rest : List ℕ) → instruction_line ObservableInclude [] (Observable k ∷ []) ++ 10 ∷ rest ≡ observable_text k ++ rest
observable_line_text k rest = simp append_assoc

-- ---- all lines

texts-append : (xs ys : List Instruction) → text_of (xs ++ ys) ≡ text_of xs ++ text_of ys
texts-append [] ys = refl
texts-append (i ∷ xs) ys = rw (texts-append xs ys) (simp append_assoc)

-- instructions whose lines are those of a list
each_text : {X : Type 0} (i : X → Instruction) (line : X → List ℕ) → ((x : X) (rest : List ℕ) → instruction_line (i x).operation (i x).arguments (i x).targets ++ 10 ∷ rest ≡ line x ++ rest)
    → (xs : List X) → text_of (map i xs) ≡ flat_map line xs
each_text i line same [] = refl
each_text i line same (x ∷ xs) = same x (text_of (map i xs)) ∙ ap (λ (t : List ℕ). line x ++ t) (each_text i line same xs)

pub instructions_text : (model : ErrorModel) → text_of (instructions_of model) ≡ model_text model
instructions_text model =
    rw (
      texts-append (error_instructions model) _,
      texts-append (detector_instructions model) (observable_instructions model),
      each_text (error_instruction model.detectors) (line_text model.detectors) (error_line_text model.detectors) model.lines,
      each_text (detector_instruction model.coordinates) (λ d. detector_text d (slice_index_or model.coordinates d [])) (λ d rest. detector_line_text d (slice_index_or model.coordinates d []) rest) (range_with_len 0 model.detectors),
      each_text observable_instruction observable_text observable_line_text (range_with_len 0 model.observables),
    )
    (sym (append_assoc (lines_text model) (detectors_text model) (observables_text model)))
