-- What a call did to its sink that writes an output there.
-- (This project's own.)
use Rattle.std.specs.Prelude.{◌≡◌, ◌⊎◌, ℕ, Bool, true, false, List, Option, Result, IfOk, IfErr, OnOk, OnErr}
use Rattle.step_model.specs.declared.fault.Fault.{Fault}
use Rattle.step_model.specs.Ends.{Takes, TakesSome, write_failures}
use Rattle.step_model.specs.Faults.{memory_fault, write_fault}
use Rattle.step_model.specs.declared.order.Order.{Order}
use Rattle.step_model.specs.declared.order.Order.TheVariants.{Analyze, Predict}
use Rattle.engine.specs.declared.order.Status.{Status}
use Rattle.engine.specs.declared.order.Status.TheVariants.{Done, Random}
use Rattle.engine.specs.Headline.{IsExactFor, IsRandomFor}
use Rattle.engine.specs.Output.{Output, output_of}

-- the sink, of type S, took the output's bytes, and the result is its status; or there was no memory or the sink failed, and
-- it took a beginning of them. These functions read the sink's bytes and its failures, which go up exactly where it failed.
pub record Answers {S : Type 0} (taken : S → Option (List ℕ)) (failures : S → ℕ) (old new : S) (output : Output) (result : Result Status Fault) : Type 0 where
  pub written : OnOk result (Takes (taken old) (taken new) output.bytes)
  pub status : IfOk result (λ status. status ≡ output.status)
  pub fault : IfErr result (λ e. (e ≡ memory_fault) ⊎ (e ≡ write_fault))
  pub writes : failures new ≡ write_failures result (failures old)
  pub beginning : OnErr result (TakesSome (taken old) (taken new) output.bytes)

-- the same for an order's output on a text, and of an analysis what its status promises of the bytes that the sink took
pub record AnswersOrder {S : Type 0} (taken : S → Option (List ℕ)) (failures : S → ℕ) (old new : S) (order : Order) (text : List ℕ) (result : Result Status Fault) : Type 0 where
  pub answered : Answers taken failures old new (output_of order text) result
  pub exact : IfOk result (λ status. order ≡ Analyze → status ≡ Done → (bytes : List ℕ) × Takes (taken old) (taken new) bytes × IsExactFor text bytes)
  pub random : IfOk result (λ status. order ≡ Analyze → status ≡ Random → (bytes : List ℕ) × Takes (taken old) (taken new) bytes × IsRandomFor text bytes)

-- whether an order takes the text of an error model
abbrev pub is_prediction : Order → Bool
is_prediction (Predict lines) = true
is_prediction order = false
