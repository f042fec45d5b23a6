-- Which target of a program is reported as random: the lowest that has a place, detectors before observables.
-- (Sensitivities taken back over a circuit: Gidney, Quantum 5, 497 (2021). How they are kept here is this project's
-- own.)
use Rattle.std.specs.Prelude.{◌≡◌, ◌<◌, ℕ, length, Option, None, Some, option_map}
use Rattle.step_model.specs.declared.step.Place.{Place}
use Rattle.step_model.specs.declared.step.Place.TheVariants.{Start, After}
use Rattle.backward.specs.declared.analysis.Analysed.{Analysed}
use Rattle.backward.specs.declared.analysis.Analysed.TheVariants.{Model, Random}
use Rattle.step_model.specs.HitModels.{model_of}
use Rattle.step_model.specs.Listing.{Listing}
use Rattle.step_model.specs.Sensitivities.{place_of}
use Rattle.step_model.specs.Targets.{targets_of}

-- the place of a target, of its latest collapse and of the lowest qubit of the start
abbrev pub place_from : Option ℕ → Option ℕ → Option Place
place_from (Some k) start = Some (After k)
place_from None start = option_map Start start

-- no target has a place
abbrev pub NoneIsRandom : Listing → Type 0
NoneIsRandom program = (d : ℕ) → d < length (targets_of program) → place_of program d ≡ None

-- the lowest target that has a place, and its place
pub record IsLowestRandom (program : Listing) (which : ℕ) (place : Place) : Type 0 where
  pub in_range : which < length (targets_of program)
  pub has_place : place_of program which ≡ Some place
  pub lowest : (d : ℕ) → d < which → place_of program d ≡ None

-- the answer for a program: its error model where no target is random, otherwise the lowest target that is
abbrev pub IsAnalysed : {A : Type 0} → Listing → Analysed A → Type 0
IsAnalysed program (Model model) = NoneIsRandom program × (model ≡ model_of program)
IsAnalysed program (Random which place) = IsLowestRandom program which place
