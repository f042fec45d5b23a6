-- What a prediction writes, by the symptom of the lines that a list names.
use Rattle.std.proofs.Common.{◌≡◌, ◌<◌, ◌^◌, ℕ, Bool, true, false, nat_lt, cond, List, length, Option, None, Some, Result, Ok, Err, refl, sym, ap, ◌∙◌}
use Rattle.std.specs.Borrow.{Bor}
use Rattle.std.specs.Prelude.{is_some, ok_or}
use Rattle.std.specs.Option.{option_copied}
use Rattle.std.proofs.lemmas.Bool.{true≢false}
use Rattle.std.specs.List.{list_all}
use Rattle.step_model.specs.declared.fault.Fault.{Fault}
use Rattle.step_model.specs.declared.fault.Cause.TheVariants.{FaultNumber}
use Rattle.step_model.specs.ErrorModels.{ErrorModel}
use Rattle.step_model.specs.Faults.{without_line, ◌>>=◌}
use Rattle.dem_text.specs.Models.{model_in}
use Rattle.dem_text.specs.NamedLines.{lines_named, symptom_of_numbers}
use Rattle.dem_text.specs.Predictions.{HasSymptom}
use Rattle.dem_text.specs.Sums.{symptom_of}
use Rattle.forward_sim.specs.Listed.{IsListOf, IsNoList}
use Rattle.frames.specs.Lines.{line_of}
use Rattle.engine.specs.Output.{Output, done, model_prediction, prediction_output}
use Rattle.engine.specs.private.Predicted.{IsReadAs, numbers_in, symptom_output}

-- what is written where these lines are named, or none is
abbrev of_named : ErrorModel → Option (List Bool) → Result Output Fault
of_named model found = ok_or found (without_line FaultNumber) >>= (λ named. Ok (done (line_of (symptom_of model named))))

if_all : (model : ErrorModel) (named : List Bool) (all : Bool) → of_named model (cond all (Some named) None) ≡ symptom_output (cond all (Some (symptom_of model named)) None)
if_all model named true = refl
if_all model named false = refl

module _ (lines text : List ℕ) (model : ErrorModel) (reads : model_in text ≡ Ok model) where
  of_model : prediction_output lines text ≡ model_prediction lines model
  of_model = ap (λ (r : Result ErrorModel Fault). r >>= model_prediction lines) reads

  -- a list names lines: what is written is their symptom, or that there is none
  by_list : (numbers : List ℕ) → IsListOf lines numbers → prediction_output lines text ≡ symptom_output (symptom_of_numbers numbers model)
  by_list numbers list =
      of_model
      ∙ (ap (of_named model) (list.marks (length model.lines))
      ∙ if_all model (lines_named numbers model) (list_all (λ n. nat_lt n (length model.lines)) numbers))

  -- no list names lines
  by_none : length model.lines < 2 ^ 64 → IsNoList lines → prediction_output lines text ≡ Err (without_line FaultNumber)
  by_none few none = of_model ∙ ap (of_named model) (none (length model.lines) few)

-- the list is there, and the model has its lines
pub predicted : (lines text : List ℕ) (listed : Option (Bor (List ℕ))) (flipped : List Bool)
    → IsReadAs lines (option_copied listed) → is_some listed ≡ true → HasSymptom (numbers_in (option_copied listed)) text (Some flipped)
    → prediction_output lines text ≡ Ok (done (line_of flipped))
predicted lines text None flipped read some has = absurd (true≢false (sym some))
predicted lines text (Some slice) flipped read some has =
    by_list lines text has.0 has.1 slice.now read ∙ ap symptom_output (sym has.3)

-- the model lacks a line of the list, or no list is there
pub no_line : (lines text : List ℕ) (listed : Option (Bor (List ℕ)))
    → IsReadAs lines (option_copied listed) → HasSymptom (numbers_in (option_copied listed)) text None
    → prediction_output lines text ≡ Err (without_line FaultNumber)
no_line lines text None read has = by_none lines text has.0 has.1 has.2 read
no_line lines text (Some slice) read has = by_list lines text has.0 has.1 slice.now read ∙ ap symptom_output (sym has.3)

-- no list is there
pub no_list : (lines text : List ℕ) (listed : Option (Bor (List ℕ))) (found : Option (List Bool))
    → IsReadAs lines (option_copied listed) → is_some listed ≡ false → HasSymptom (numbers_in (option_copied listed)) text found
    → prediction_output lines text ≡ Err (without_line FaultNumber)
no_list lines text None found read none has = by_none lines text has.0 has.1 has.2 read
no_list lines text (Some slice) found read none has = absurd (true≢false none)

-- the text writes no model
pub refused : (lines text : List ℕ) (fault : Fault) → model_in text ≡ Err fault → prediction_output lines text ≡ Err fault
refused lines text fault is = ap (λ (r : Result ErrorModel Fault). r >>= model_prediction lines) is
