-- What an analysis promises of the bytes that it writes for a text. Where its status is Done, they are the text of an
-- error model and read as that model. The model fits the program for which the text stands, and is exact. For any set
-- of the program's faults and any two coin lists, compare the run with these faults under the first list with the run
-- without faults under the second: the detectors and observables that differ are the exclusive or of those faults'
-- targets in the model. So no target is random. Where its status is Random, the bytes name a random target and two coin
-- lists under which the runs without faults differ in that target; no lower target is random, detectors being lower
-- than observables. So a text that stands for a program is answered Random exactly where some target is random. (A coin is
-- the outcome of a collapse, the projective measurement inside a measurement or a reset, where that outcome is random.)
-- (Detectors, observables and their error models are Stim's, github.com/quantumlib/Stim; the promise is this project's
-- own.)
use Rattle.std.specs.Prelude.{◌≡◌, ◌≢◌, ◌↔◌, ◌<◌, ◌∷◌, ◌++◌, ℕ, Bool, List, length, codes, Ok}
use Rattle.step_model.specs.ErrorModels.{ErrorModel, Fits, IsExact}
use Rattle.step_model.specs.Listing.{Listing}
use Rattle.step_model.specs.Targets.{targets_of, noiseless_parity, AreCoins, IsRandom}
use Rattle.error_models.specs.ModelText.{model_text, target_text}
use Rattle.dem_text.specs.Models.{model_in}
use Rattle.unroll.specs.Programs.{program_in}
use Rattle.frames.specs.Lines.{line_of}
use Rattle.engine.specs.declared.order.Status.{Status}
use Rattle.engine.specs.declared.order.Status.TheVariants.{Random}

-- the bytes are the text of a model of the program that is exact, and read as that model
pub record IsExactIn (program : Listing) (bytes : List ℕ) : Type 0 where
  pub faults : List ℕ
  pub model : ErrorModel
  pub written : bytes ≡ model_text model
  pub reads : model_in bytes ≡ Ok model
  pub fits : Fits program faults model
  pub exact : IsExact program faults model
  pub none_random : (d : ℕ) → d < length (targets_of program) → IsRandom program d → ⊥

-- the bytes name the lowest random target of the program, and two coin lists that show it
pub record IsRandomIn (program : Listing) (bytes : List ℕ) : Type 0 where
  pub target : ℕ
  pub first : List Bool
  pub second : List Bool
  pub written : bytes ≡ codes "random" ++ target_text (length program.detectors) target ++ 10 ∷ line_of first ++ line_of second
  pub in_range : target < length (targets_of program)
  pub first_coins : AreCoins program first
  pub second_coins : AreCoins program second
  pub disagree : noiseless_parity program first target ≢ noiseless_parity program second target
  pub lowest : (d : ℕ) → d < target → IsRandom program d → ⊥

-- the same for the program for which a text stands
pub record IsExactFor (text bytes : List ℕ) : Type 0 where
  pub program : Listing
  pub stands_for : program_in text ≡ Ok program
  pub exact : IsExactIn program bytes

-- and so of a random target
pub record IsRandomFor (text bytes : List ℕ) : Type 0 where
  pub program : Listing
  pub stands_for : program_in text ≡ Ok program
  pub random : IsRandomIn program bytes

-- some target of a program is random
abbrev pub HasRandomTarget : Listing → Type 0
HasRandomTarget program = (d : ℕ) × (d < length (targets_of program)) × IsRandom program d

-- an analysis of a text that stands for a program is answered Random exactly where some target of the program is random
abbrev pub IsDecided : List ℕ → Status → Type 0
IsDecided text status = (program : Listing) → program_in text ≡ Ok program → (status ≡ Random) ↔ HasRandomTarget program
