-- What serving an order does to its source, and when: the text is read to its end before anything is written.
-- (This project's own.)
use Rattle.std.specs.Prelude.{◌≡◌, ◌⊎◌, ℕ, List, Option, Result, Err}
use Rattle.step_model.specs.declared.fault.Fault.{Fault}
use Rattle.step_model.specs.Ends.{HandsOut, HandsOutSome, IsAtEnd, read_failures}
use Rattle.step_model.specs.Faults.{memory_fault, read_fault}
use Rattle.engine.specs.declared.order.Status.{Status}

-- a source, of type R, handed out a text to its end, of which this holds. These functions read the bytes that it still hands
-- out and its failures.
pub record AnswersText {R : Type 0} (left : R → Option (List ℕ)) (failures : R → ℕ) (old new : R) (holds : List ℕ → Type 0) : Type 0 where
  pub text : List ℕ
  pub handed_out : HandsOut (left old) (left new) text
  pub end : IsAtEnd (left new)
  pub count : failures new ≡ failures old
  pub answered : holds text

-- before that there was no memory or the source failed, and the sink, of type S, is as it was
pub record FailsToRead {R S : Type 0} (left : R → Option (List ℕ)) (failures : R → ℕ) (old new : R) (sink sink_after : S) (result : Result Status Fault) : Type 0 where
  pub cause : Fault
  pub failed : result ≡ Err cause
  pub fault : (cause ≡ memory_fault) ⊎ (cause ≡ read_fault)
  pub rest : HandsOutSome (left old) (left new)
  pub count : failures new ≡ read_failures result (failures old)
  pub unwritten : sink_after ≡ sink

-- one of the two
abbrev pub Serves : {R S : Type 0} → (R → Option (List ℕ)) → (R → ℕ) → R → R → S → S → (List ℕ → Type 0) → Result Status Fault → Type 0
Serves left failures old new sink sink_after holds result =
    AnswersText left failures old new holds ⊎ FailsToRead left failures old new sink sink_after result
