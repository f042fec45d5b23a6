-- What is said of a text that was read to its end is said of the bytes of a source that tells; and which half of the headline
-- an analysis comes to.
use Rattle.std.proofs.Common.{◌≡◌, ℕ, List, Option, None, Some, Result, Ok, Err, refl, sym, ap, ◌∙◌, subst}
use Rattle.std.specs.Prelude.{IfSome, IfOk}
use Rattle.step_model.specs.declared.fault.Fault.{Fault}
use Rattle.step_model.specs.declared.step.Place.{Place}
use Rattle.step_model.specs.Ends.{HandsOut, IsAtEnd, Takes}
use Rattle.step_model.specs.Listing.{Listing}
use Rattle.step_model.proofs.EndsLemmas.{HandsOut-all}
use Rattle.step_model.specs.declared.order.Order.{Order}
use Rattle.step_model.specs.declared.order.Order.TheVariants.{Analyze}
use Rattle.engine.specs.declared.order.Status.{Status}
use Rattle.engine.specs.declared.order.Status.TheVariants.{Done, Refused, Random}
use Rattle.engine.specs.Headline.{HasRandomTarget, IsDecided, IsExactFor, IsRandomFor}
use Rattle.engine.specs.Output.{finding, output_of, refused_or}
use Rattle.engine.specs.Findings.{lowest_placed}
use Rattle.engine.specs.private.Answered.{Answers, AnswersOrder}
use Rattle.engine.proofs.FindingLemmas.{found_of_text}

pub of_told : (P : List ℕ → Type 0) (left new : Option (List ℕ)) (bytes : List ℕ) → HandsOut left new bytes → IsAtEnd new → P bytes → IfSome left P
of_told P None new bytes handed end p = tt
of_told P (Some all) new bytes handed end p = subst P (HandsOut-all all bytes new handed end).0 p

-- what is found of a program is no refusal
not_refused : (program : Listing) (found : Option (ℕ × Place)) → (finding program found).status ≡ Refused → ⊥
not_refused program None h = cc
not_refused program (Some f) h = cc

same_program : (p q : Listing) → ◌≡◌ {A = Result Listing Fault} (Ok p) (Ok q) → p ≡ q
same_program p q h = cc

module _ (Goes : List ℕ → Type 0) (text : List ℕ) (status : Status) where
  abbrev Exact : Type 0
  Exact = status ≡ Done → (bytes : List ℕ) × Goes bytes × IsExactFor text bytes

  abbrev Randoms : Type 0
  Randoms = status ≡ Random → (bytes : List ℕ) × Goes bytes × IsRandomFor text bytes

  is_decided : status ≡ (output_of Analyze text).status → Exact → Randoms → IsDecided text status
  is_decided is exact random program stands = (named, λ has. decide has status refl)
    where
      named : status ≡ Random → HasRandomTarget program
      named e =
          let found = (random e).2 in
          let r = found.random in
          let same = same_program found.program program (sym found.stands_for ∙ stands) in
          subst HasRandomTarget same
          (r.target, r.in_range, (r.first, r.second, r.first_coins, r.second_coins, r.disagree))

      decide : HasRandomTarget program → (s : Status) → status ≡ s → status ≡ Random
      decide has Done e =
          let found = (exact e).2 in
          let same = same_program program found.program (sym stands ∙ found.stands_for) in
          let there = subst HasRandomTarget same has in
          absurd (found.exact.none_random there.0 there.1 there.2)
      decide has Refused e =
          let output = ap (λ r. (refused_or r).status) (found_of_text text program stands) in
          absurd (not_refused program (lowest_placed program) (sym output ∙ (sym is ∙ e)))
      decide has Random e = e

pub decided : (Goes : List ℕ → Type 0) (order : Order) (text : List ℕ) (r : Result Status Fault) → IfOk r (λ status. status ≡ (output_of order text).status)
    → IfOk r (λ status. order ≡ Analyze → status ≡ Done → (bytes : List ℕ) × Goes bytes × IsExactFor text bytes)
    → IfOk r (λ status. order ≡ Analyze → status ≡ Random → (bytes : List ℕ) × Goes bytes × IsRandomFor text bytes)
    → IfOk r (λ status. order ≡ Analyze → IsDecided text status)
decided Goes order text (Ok status) is exact random =
    λ asked. is_decided Goes text status (is ∙ ap (λ (o : Order). (output_of o text).status) asked) (exact asked) (random asked)
decided Goes order text (Err fault) is exact random = tt

-- an order that isn't an analysis promises nothing of one
not_asked : (order other : Order) (P : Status → Type 0) (r : Result Status Fault) → order ≡ other → (other ≡ Analyze → ⊥) → IfOk r (λ status. order ≡ Analyze → P status)
not_asked order other P (Ok status) is differs = λ asked. absurd (differs (sym is ∙ asked))
not_asked order other P (Err fault) is differs = tt

pub only_answered : {S : Type 0} {taken : S → Option (List ℕ)} {failures : S → ℕ} {old new : S} {order : Order} {text : List ℕ} {result : Result Status Fault} (other : Order)
    → order ≡ other → (other ≡ Analyze → ⊥) → Answers taken failures old new (output_of other text) result → AnswersOrder taken failures old new order text result
only_answered {S} {taken} {failures} {old} {new} {order} {text} {result} other is differs answers =
    record {
      answered = subst (λ (o : Order). Answers taken failures old new (output_of o text) result) (sym is) answers;
      exact = not_asked order other (λ status. status ≡ Done → (bytes : List ℕ) × Takes (taken old) (taken new) bytes × IsExactFor text bytes) result is differs;
      random = not_asked order other (λ status. status ≡ Random → (bytes : List ℕ) × Takes (taken old) (taken new) bytes × IsRandomFor text bytes) result is differs;
    }
