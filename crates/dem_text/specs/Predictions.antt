-- What is predicted of the error lines that are named by their numbers.
use Rattle.std.specs.Prelude.{◌≡◌, ◌<◌, ◌^◌, ℕ, Bool, List, Option, None, Some, Ok, Err, length}
use Rattle.step_model.specs.Ends.{HandsOut}
use Rattle.step_model.specs.ErrorModels.{ErrorModel}
use Rattle.dem_text.specs.declared.prediction.Prediction.{Prediction}
use Rattle.dem_text.specs.declared.prediction.Prediction.TheVariants as prediction
use Rattle.dem_text.specs.Models.{model_in}
use Rattle.dem_text.specs.NamedLines.{symptom_of_numbers}

-- a text writes a model, of which these lines have this symptom
abbrev pub HasSymptom : List ℕ → List ℕ → Option (List Bool) → Type 0
HasSymptom numbers text found =
    (model : ErrorModel) × (model_in text ≡ Ok model) × (length model.lines < 2 ^ 64) × (found ≡ symptom_of_numbers numbers model)

abbrev pub IsPrediction : {A : Type 0} → List ℕ → List ℕ → Prediction A → Type 0
IsPrediction numbers text (prediction.Symptom bits) = HasSymptom numbers text (Some bits.items)
IsPrediction numbers text prediction.NoSuchLine = HasSymptom numbers text None
IsPrediction numbers text (prediction.Refused fault) = model_in text ≡ Err fault

-- a source handed out a text of which this is predicted
pub record HasPredicted {A : Type 0} (numbers : List ℕ) (old new : Option (List ℕ)) (found : Prediction A) : Type 0 where
  pub text : List ℕ
  pub handed_out : HandsOut old new text
  pub is : IsPrediction numbers text found
