-- What writing the error model of a program answers, and what it did to its sink. (This project's own.)
use Rattle.std.specs.Prelude.{◌≡◌, ◌⊎◌, ℕ, List, Option, Result, IfOk, IfErr, IfNone, IfSome, OnErr}
use Rattle.error_models.specs.ModelText.{model_text}
use Rattle.step_model.specs.Held.{Held}
use Rattle.step_model.specs.Pushed.{Pushes}
use Rattle.step_model.specs.declared.fault.Fault.{Fault}
use Rattle.step_model.specs.declared.step.Place.{Place}
use Rattle.step_model.specs.Ends.{Takes, TakesSome, write_failures}
use Rattle.step_model.specs.Faults.{memory_fault, write_fault}
use Rattle.step_model.specs.HitModels.{model_of}
use Rattle.step_model.specs.Listing.{Listing}
use Rattle.backward.specs.Places.{IsLowestRandom, NoneIsRandom}
use Rattle.backward.specs.private.Points.{PushesSome}

-- the sink, of type S, took the model's text, and no target is random; or the result is the lowest that is, with its place, and
-- the sink is as it was; or there was no memory or the sink failed, and it took nothing, or a beginning of the text. These
-- functions read the sink's bytes and its failures, which go up exactly where it failed.
pub record Answers {S : Type 0} (taken : S → Option (List ℕ)) (failures : S → ℕ) (old new : S) (program : Listing) (result : Result (Option (ℕ × Place)) Fault) : Type 0 where
  pub none : IfOk result (λ random. IfNone random (NoneIsRandom program))
  pub written : IfOk result (λ random. IfNone random (Takes (taken old) (taken new) (model_text (model_of program))))
  pub lowest : IfOk result (λ random. IfSome random (λ random. IsLowestRandom program random.0 random.1))
  pub nothing : IfOk result (λ random. IfSome random (λ _. new ≡ old))
  pub fault : IfErr result (λ e. (e ≡ memory_fault) ⊎ (e ≡ write_fault))
  pub beginning : OnErr result ((new ≡ old) ⊎ (NoneIsRandom program × TakesSome (taken old) (taken new) (model_text (model_of program))))
  pub writes : failures new ≡ write_failures result (failures old)

-- the same, where the text is pushed to a buffer in front of the sink
pub record PushesAnswer {S E : Type 0} (taken : S → Option (List ℕ)) (failures : S → ℕ) (old new : S) (held_old held_new : Held) (program : Listing) (result : Result (Option (ℕ × Place)) E) : Type 0 where
  pub none : IfOk result (λ random. IfNone random (NoneIsRandom program))
  pub text : IfOk result (λ random. IfNone random (Pushes taken failures old new held_old held_new (model_text (model_of program))))
  pub lowest : IfOk result (λ random. IfSome random (λ random. IsLowestRandom program random.0 random.1))
  pub nothing : IfOk result (λ random. IfSome random (λ _. (new ≡ old) × (held_new ≡ held_old)))
  pub some : OnErr result (((new ≡ old) × (held_new ≡ held_old)) ⊎ (NoneIsRandom program × PushesSome taken failures old new held_old held_new (model_text (model_of program))))
