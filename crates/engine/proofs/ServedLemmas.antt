-- What each clause of serving an order says, from when the order failed: after its text was read to the end, or before.
use Rattle.std.proofs.Common.{◌≡◌, ◌⊎◌, inl, inr, ℕ, List, [], Option, None, Some, Result, Ok, Err, refl, sym, ap, ◌∙◌, subst}
use Rattle.std.specs.Borrow.{Bor}
use Rattle.std.specs.Prelude.{IfSome, OnSome, IfOk, IfErr, OnOk, OnErr}
use Rattle.std.proofs.lemmas.Result.{IfErr-weaker, IfOk-weaker, on_err_weaker, on_ok_weaker}
use Rattle.step_model.specs.declared.fault.Fault.{Fault}
use Rattle.step_model.specs.Ends.{HandsOut, HandsOutSome, IsAtEnd, Takes, TakesSome, read_failures, write_failures}
use Rattle.step_model.specs.Faults.{memory_fault, read_fault, write_fault}
use Rattle.step_model.proofs.EndsLemmas.{HandsOut-all, TakesSome-none}
use Rattle.step_model.specs.declared.order.Order.{Order}
use Rattle.step_model.specs.declared.order.Order.TheVariants.{Analyze, Predict}
use Rattle.engine.specs.declared.order.Status.{Status}
use Rattle.engine.specs.declared.order.Status.TheVariants.{Done, Random}
use Rattle.engine.specs.Headline.{IsDecided, IsExactFor, IsRandomFor}
use Rattle.engine.specs.Output.{output_of, prediction_output, refused_or}
use Rattle.engine.specs.private.Answered.{Answers, AnswersOrder}
use Rattle.engine.specs.private.Served.{AnswersText, FailsToRead, Serves}
use Rattle.engine.proofs.ServingLemmas.{decided, of_told, only_answered}

-- ---- of any result

module _ (r : Result Status Fault) where
  on_ok : (P : Type 0) → P → OnOk r P
  on_ok P p = elim r as (λ r. OnOk r P) [ Ok status ↦ p | Err fault ↦ tt ]

  on_err : (P : Type 0) → P → OnErr r P
  on_err P p = elim r as (λ r. OnErr r P) [ Ok status ↦ tt | Err fault ↦ p ]

-- what is said of a value holds of no failure, and what is said of a failure's fault
no_value : (r : Result Status Fault) (cause : Fault) (P : Status → Type 0) → r ≡ Err cause → IfOk r P
no_value r cause P e = subst (λ (s : Result Status Fault). IfOk s P) (sym e) tt

this_fault : (r : Result Status Fault) (cause : Fault) (P : Fault → Type 0) → r ≡ Err cause → P cause → IfErr r P
this_fault r cause P e p = subst (λ (s : Result Status Fault). IfErr s P) (sym e) p

unread_count : (r : Result Status Fault) (n : ℕ) → IfErr r (λ e. (e ≡ memory_fault) ⊎ (e ≡ write_fault)) → read_failures r n ≡ n
unread_count (Ok status) n h = refl
unread_count (Err e) n (inl h) = ap (λ (f : Fault). read_failures {T = Status} (Err f) n) h
unread_count (Err e) n (inr h) = ap (λ (f : Fault). read_failures {T = Status} (Err f) n) h

unwritten_count : (cause : Fault) (n : ℕ) → (cause ≡ memory_fault) ⊎ (cause ≡ read_fault) → write_failures {T = Status} (Err cause) n ≡ n
unwritten_count cause n (inl h) = ap (λ (f : Fault). write_failures {T = Status} (Err f) n) h
unwritten_count cause n (inr h) = ap (λ (f : Fault). write_failures {T = Status} (Err f) n) h

no_read_fault : (e : Fault) → (e ≡ memory_fault) ⊎ (e ≡ write_fault) → e ≡ read_fault → ⊥
no_read_fault e (inl h) same = let causes = ap (λ (f : Fault). f.cause) (sym h ∙ same) in cc
no_read_fault e (inr h) same = let causes = ap (λ (f : Fault). f.cause) (sym h ∙ same) in cc

memory_or_write : (e : Fault) → (e ≡ memory_fault) ⊎ (e ≡ write_fault) → (e ≡ memory_fault) ⊎ (e ≡ read_fault) ⊎ (e ≡ write_fault)
memory_or_write e (inl h) = inl h
memory_or_write e (inr h) = inr (inr h)

memory_or_read : (e : Fault) → (e ≡ memory_fault) ⊎ (e ≡ read_fault) → (e ≡ memory_fault) ⊎ (e ≡ read_fault) ⊎ (e ≡ write_fault)
memory_or_read e (inl h) = inl h
memory_or_read e (inr h) = inr (inl h)

none_left : (old new : Option (List ℕ)) (bytes : List ℕ) → HandsOut old new bytes → IsAtEnd new → OnSome old (new ≡ Some [])
none_left None new bytes handed end = tt
none_left (Some all) new bytes handed end = (HandsOut-all all bytes new handed end).1

none_taken : (o : Option (List ℕ)) {P : List ℕ → Type 0} → ((text : List ℕ) → P text) → IfSome o P
none_taken None p = tt
none_taken (Some text) p = p text

-- ---- of an order

module _ {R S : Type 0} (left : R → Option (List ℕ)) (fails : R → ℕ) (taken : S → Option (List ℕ)) (refused : S → ℕ) (old new : R) (sink after : S) (order : Order) (result : Result Status Fault) where
  abbrev Answered : List ℕ → Type 0
  Answered text = AnswersOrder taken refused sink after order text result

  abbrev Read : Type 0
  Read = AnswersText left fails old new Answered

  abbrev Failed : Type 0
  Failed = FailsToRead left fails old new sink after result

  abbrev Served : Type 0
  Served = Serves left fails old new sink after Answered result

  -- a prediction answers an order that is one
  pub by_prediction : (lines : Bor (List ℕ)) → order ≡ Predict lines
      → Serves left fails old new sink after (λ text. Answers taken refused sink after (refused_or (prediction_output lines.now text)) result) result → Served
  by_prediction lines is (inl a) =
      inl (record { text = a.text; handed_out = a.handed_out; end = a.end; count = a.count; answered = only_answered (Predict lines) is (λ same. cc) a.answered })
  by_prediction lines is (inr f) = inr f

  -- what holds of the text holds of the bytes that a source that tells still had
  of_bytes : (P : List ℕ → Type 0) (a : Read) → P a.text → IfSome (left old) P
  of_bytes P a p = of_told P (left old) (left new) a.text a.handed_out a.end p

  pub read : Served → OnOk result (OnSome (left old) (left new ≡ Some []))
  read (inl a) = on_ok result _ (none_left (left old) (left new) a.text a.handed_out a.end)
  read (inr f) = no_value result f.cause _ f.failed

  pub written : Served → OnOk result (IfSome (left old) (λ text. Takes (taken sink) (taken after) (output_of order text).bytes))
  written (inl a) =
      on_ok_weaker result (of_bytes (λ text. Takes (taken sink) (taken after) (output_of order text).bytes) a) a.answered.answered.written
  written (inr f) = no_value result f.cause _ f.failed

  pub status : Served → IfOk result (λ status. IfSome (left old) (λ text. status ≡ (output_of order text).status))
  status (inl a) =
      IfOk-weaker result (λ status. status ≡ (output_of order a.text).status) (λ status. IfSome (left old) (λ text. status ≡ (output_of order text).status))
      (λ status. of_bytes (λ text. status ≡ (output_of order text).status) a) a.answered.answered.status
  status (inr f) = no_value result f.cause _ f.failed

  pub exact : Served → IfOk result (λ status. order ≡ Analyze → status ≡ Done → IfSome (left old) (λ text. (bytes : List ℕ) × Takes (taken sink) (taken after) bytes × IsExactFor text bytes))
  exact (inl a) =
      IfOk-weaker result (λ status. order ≡ Analyze → status ≡ Done → (bytes : List ℕ) × Takes (taken sink) (taken after) bytes × IsExactFor a.text bytes)
      (λ status. order ≡ Analyze → status ≡ Done → IfSome (left old) (λ text. (bytes : List ℕ) × Takes (taken sink) (taken after) bytes × IsExactFor text bytes))
      (λ status h asked is. of_bytes (λ text. (bytes : List ℕ) × Takes (taken sink) (taken after) bytes × IsExactFor text bytes) a (h asked is)) a.answered.exact
  exact (inr f) = no_value result f.cause _ f.failed

  pub random : Served → IfOk result (λ status. order ≡ Analyze → status ≡ Random → IfSome (left old) (λ text. (bytes : List ℕ) × Takes (taken sink) (taken after) bytes × IsRandomFor text bytes))
  random (inl a) =
      IfOk-weaker result (λ status. order ≡ Analyze → status ≡ Random → (bytes : List ℕ) × Takes (taken sink) (taken after) bytes × IsRandomFor a.text bytes)
      (λ status. order ≡ Analyze → status ≡ Random → IfSome (left old) (λ text. (bytes : List ℕ) × Takes (taken sink) (taken after) bytes × IsRandomFor text bytes))
      (λ status h asked is. of_bytes (λ text. (bytes : List ℕ) × Takes (taken sink) (taken after) bytes × IsRandomFor text bytes) a (h asked is)) a.answered.random
  random (inr f) = no_value result f.cause _ f.failed

  pub is_decided : Served → IfOk result (λ status. order ≡ Analyze → IfSome (left old) (λ text. IsDecided text status))
  is_decided (inl a) =
      IfOk-weaker result (λ status. order ≡ Analyze → IsDecided a.text status) (λ status. order ≡ Analyze → IfSome (left old) (λ text. IsDecided text status))
      (λ status h asked. of_bytes (λ text. IsDecided text status) a (h asked))
      (decided (λ bytes. Takes (taken sink) (taken after) bytes) order a.text result a.answered.answered.status a.answered.exact a.answered.random)
  is_decided (inr f) = no_value result f.cause _ f.failed

  pub fault : Served → IfErr result (λ e. (e ≡ memory_fault) ⊎ (e ≡ read_fault) ⊎ (e ≡ write_fault))
  fault (inl a) =
      IfErr-weaker result (λ e. (e ≡ memory_fault) ⊎ (e ≡ write_fault)) (λ e. (e ≡ memory_fault) ⊎ (e ≡ read_fault) ⊎ (e ≡ write_fault))
      (λ e h. memory_or_write e h) a.answered.answered.fault
  fault (inr f) = this_fault result f.cause (λ e. (e ≡ memory_fault) ⊎ (e ≡ read_fault) ⊎ (e ≡ write_fault)) f.failed (memory_or_read f.cause f.fault)

  pub reads : Served → fails new ≡ read_failures result (fails old)
  reads (inl a) = a.count ∙ sym (unread_count result (fails old) a.answered.answered.fault)
  reads (inr f) = f.count

  pub writes : Served → refused after ≡ write_failures result (refused sink)
  writes (inl a) = a.answered.answered.writes
  writes (inr f) =
      ap refused f.unwritten
      ∙ sym (ap (λ (r : Result Status Fault). write_failures r (refused sink)) f.failed ∙ unwritten_count f.cause (refused sink) f.fault)

  pub silent : Served → IfErr result (λ e. e ≡ read_fault → taken after ≡ taken sink)
  silent (inl a) =
      IfErr-weaker result (λ e. (e ≡ memory_fault) ⊎ (e ≡ write_fault)) (λ e. e ≡ read_fault → taken after ≡ taken sink)
      (λ e h same. absurd (no_read_fault e h same)) a.answered.answered.fault
  silent (inr f) = this_fault result f.cause (λ e. e ≡ read_fault → taken after ≡ taken sink) f.failed (λ _. ap taken f.unwritten)

  pub rest : Served → OnErr result (HandsOutSome (left old) (left new))
  rest (inl a) = on_err result _ (a.text, a.handed_out)
  rest (inr f) = on_err result _ f.rest

  pub unread : Served → OnErr result ((taken after ≡ taken sink) ⊎ IsAtEnd (left new))
  unread (inl a) = on_err result _ (inr a.end)
  unread (inr f) = on_err result _ (inl (ap taken f.unwritten))

  pub beginning : Served → OnErr result (IfSome (left old) (λ text. TakesSome (taken sink) (taken after) (output_of order text).bytes))
  beginning (inl a) =
      on_err_weaker result (of_bytes (λ text. TakesSome (taken sink) (taken after) (output_of order text).bytes) a) a.answered.answered.beginning
  beginning (inr f) = on_err result _ (none_taken (left old) (λ text. TakesSome-none (taken sink) (taken after) (output_of order text).bytes (ap taken f.unwritten)))
