-- At most one error model fits a program and is exact: that it is exact for the sets of one fault gives the targets of
-- each fault, and that it fits gives the order of the lines and their texts. (Stim's detector error model format.)
use Rattle.std.specs.Prelude.{◌≡◌, ℕ, List}
use Rattle.step_model.specs.ErrorModels.{ErrorModel, Fits, IsExact}
use Rattle.step_model.specs.Listing.{Listing}

-- two models, with the numbers of the faults that their lines stand for, are the same
pub record AreSame (first second : List ℕ) (model other : ErrorModel) : Type 0 where
  pub numbers : first ≡ second
  pub models : model ≡ other

-- any two models that fit a program and are exact are the same
abbrev pub OneModelLaw : Type 0
OneModelLaw =
    (program : Listing) (numbers numbers' : List ℕ) (model model' : ErrorModel)
    → Fits program numbers model → IsExact program numbers model
    → Fits program numbers' model' → IsExact program numbers' model'
    → AreSame numbers numbers' model model'
