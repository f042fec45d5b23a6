-- The sums of one pass over a circuit are the totals of its tree, as far as they fit; the qubits and observables are those
-- that it names; and the first lines that reach too far back, or name an observable beyond the limit, are found.
use Rattle.std.proofs.Common.{◌≡◌, ℕ, ◌+◌, ◌*◌, ◌≤◌, inl, inr, ◌||◌, Bool, true, false, ltb, List, [], ◌∷◌, ◌++◌, Option, None, Some, refl, sym, ap, ap₂, ◌∙◌, arith}
use Rattle.std.specs.Prelude.{All, max, min, nat_lt, if◌then◌else◌}
use Rattle.std.specs.Option.{option_or}
use Rattle.std.proofs.lemmas.Bool.{cases_lt, lt-ltb, le-ltb}
use Rattle.std.proofs.lemmas.List.Elements.{All-head, All-tail}
use Rattle.stim_parser.specs.declared.target.Target.{Target}
use Rattle.stim_parser.specs.declared.target.Target.TheVariants.{Back}
use Rattle.stim_parser.specs.Circuits.{AllFit, Fits}
use Rattle.stim_parser.specs.Trees.{Tree}
use Rattle.stim_parser.specs.Verdicts.{Instruction}
use Rattle.stim_lexer.specs.Reached.{greatest_by, instructions_of, total}
use Rattle.stim_lexer.specs.Trees.{Nothing, Then, Block}
use Rattle.stim_lexer.proofs.CappedSums.{KeepsSum, behind-sum, no_turn, repeated-adds, whole-sum}
use Rattle.unroll.specs.declared.totals.Totals.{Totals}
use Rattle.stim_lexer.specs.Passes.{behind}
use Rattle.circuit_walk.specs.Refusals.{first_observable_beyond, is_before_start, most_observables, reaches_far}
use Rattle.circuit_walk.specs.Totals.{observables_to}
use Rattle.unroll.specs.private.Counted.{first_far_from}
use Rattle.unroll.specs.private.Summed.{AreTotals, capped_sum, greatest, nothing_summed, repeated_sum, summing, totals_after, totals_repeated}
use Rattle.unroll.specs.private.MadeTotals.{fault_count, made_count, collapse_count, detector_count, qubits_named, record_count, step_count}
use Rattle.unroll.specs.private.Pushed.{back_of}
use Rattle.unroll.proofs.FitLemmas.{backs_within}
use Rattle.unroll.proofs.QubitsWithin.{greatest-append}

-- ---- all sums

sums : (count : Instruction → ℕ) (sum : Totals → ℕ) → ((i : Instruction) (t : Totals) → sum (totals_after i t) ≡ capped_sum (sum t) (count i)) → ((turns : ℕ) (before after : Totals) → sum (totals_repeated turns before after) ≡ repeated_sum turns (sum before) (sum after))
    → KeepsSum summing greatest 0 count sum
sums count sum step close =
    record {
      step = step;
      close = λ turns before after few. close turns before after ∙ no_turn greatest turns (sum before) (sum after) few;
    }

record_sums : KeepsSum summing greatest 0 record_count (λ t. t.records)
record_sums = sums record_count (λ t. t.records) (λ i t. refl) (λ turns before after. refl)

step_sums : KeepsSum summing greatest 1 step_count (λ t. t.steps)
step_sums = record { step = λ i t. refl; close = λ turns before after few. refl }

-- ---- the greatest that instructions name

-- a number that a pass keeps, the greatest of a count over the instructions of the text
record KeepsGreatest (count : Instruction → ℕ) (found : Totals → ℕ) : Type 0 where
  step : (i : Instruction) (t : Totals) → found (totals_after i t) ≡ max (found t) (count i)
  close : (turns : ℕ) (before after : Totals) → found (totals_repeated turns before after) ≡ found after

behind-greatest : {count : Instruction → ℕ} {found : Totals → ℕ} → KeepsGreatest count found → (t : Tree) (s : Totals) → found (behind summing t s) ≡ max (found s) (greatest_by count (instructions_of t))
behind-greatest keeps Nothing s = omega arith
behind-greatest keeps (Then i rest) s = omega (arith, behind-greatest keeps rest (totals_after i s), keeps.step i s)
behind-greatest {count} keeps (Block line turns body rest) s =
    let after = behind summing body s in
    omega (arith, behind-greatest keeps rest (totals_repeated turns s after), keeps.close turns s after, behind-greatest keeps body s, greatest-append count (instructions_of body) (instructions_of rest))

whole-greatest : (count : Instruction → ℕ) (found : Totals → ℕ) → KeepsGreatest count found → found nothing_summed ≡ 0 → (t : Tree) → found (behind summing t nothing_summed) ≡ greatest_by count (instructions_of t)
whole-greatest count found keeps none t = omega (arith, behind-greatest keeps t nothing_summed, none)

-- ---- the first line that reaches too far back

same_far : (r k : ℕ) → k ≤ 999_999_999_999_999_999 → ltb (min r greatest) k ≡ ltb r k
same_far r k small =
    elim (cases_lt r k) as (λ _. ltb (min r greatest) k ≡ ltb r k) [
      | inl far ↦ lt-ltb (min r greatest) k (omega (arith, far)) ∙ sym (lt-ltb r k far)
      | inr near ↦ le-ltb (min r greatest) k (omega (arith, near, small)) ∙ sym (le-ltb r k near)
    ]

same_far_target : (r : ℕ) (t : Target) → back_of t ≤ 999_999_999_999_999_999 → is_before_start (min r greatest) t ≡ is_before_start r t
same_far_target r (Back k) small = same_far r k small
same_far_target r t small = refl

same_reach : (r : ℕ) (ts : List Target) → All (λ t. back_of t ≤ 999_999_999_999_999_999) ts → reaches_far (min r greatest) ts ≡ reaches_far r ts
same_reach r [] small = refl
same_reach r (t ∷ ts) small =
    ap₂ (λ a b. a || b) (same_far_target r t (All-head (λ t. back_of t ≤ 999_999_999_999_999_999) t ts small))
    (same_reach r ts (All-tail (λ t. back_of t ≤ 999_999_999_999_999_999) t ts small))

or_none : (f : Option ℕ) → f ≡ option_or f None
or_none None = refl
or_none (Some line) = refl

or_if : (f : Option ℕ) (b : Bool) (line : ℕ) (g : Option ℕ) → option_or (option_or f (if b then Some line else None)) g ≡ option_or f (if b then Some line else g)
or_if None true line g = refl
or_if None false line g = refl
or_if (Some l) b line g = refl

or_or : (f g h : Option ℕ) → option_or (option_or f g) h ≡ option_or f (option_or g h)
or_or None g h = refl
or_or (Some l) g h = refl

behind-far : (t : Tree) (r : ℕ) (s : Totals) → AllFit t → s.records ≡ min r greatest → (behind summing t s).far_line ≡ option_or s.far_line (first_far_from r t)
unfolding first_far_from
behind-far Nothing r s fit h = or_none s.far_line
behind-far (Then i rest) r s fit h =
    let reach : reaches_far s.records i.targets ≡ reaches_far r i.targets =
    ap (λ n. reaches_far n i.targets) h ∙ same_reach r i.targets (backs_within i fit.0) in
    behind-far rest (r + record_count i) (totals_after i s) fit.1 (omega (arith, h))
    ∙ ap (λ b. option_or (option_or s.far_line (if b then Some i.line else None)) (first_far_from (r + record_count i) rest)) reach
    ∙ or_if s.far_line (reaches_far r i.targets) i.line (first_far_from (r + record_count i) rest)
behind-far (Block line turns body rest) r s fit h =
    let after = behind summing body s in
    let more = turns * total 0 record_count body in
    let closes = repeated-adds greatest turns r (total 0 record_count body) s.records after.records fit.0 h (behind-sum record_sums Fits body r s fit.1 h) in
    behind-far rest (r + more) (totals_repeated turns s after) fit.2 closes
    ∙ ap (λ f. option_or f (first_far_from (r + more) rest)) (behind-far body r s fit.1 h)
    ∙ or_or s.far_line (first_far_from r body) (first_far_from (r + more) rest)

-- ---- the first line that names an observable beyond the limit

abbrev is_beyond : Instruction → Bool
is_beyond i = nat_lt most_observables (observables_to i.operation i.arguments)

or_else : (b : Bool) (line : ℕ) (f g : Option ℕ) → (if b then Some line else option_or f g) ≡ option_or (if b then Some line else f) g
or_else true line f g = refl
or_else false line f g = refl

beyond-append : (is js : List Instruction) → first_observable_beyond (is ++ js) ≡ option_or (first_observable_beyond is) (first_observable_beyond js)
unfolding first_observable_beyond
beyond-append [] js = refl
beyond-append (i ∷ is) js =
    ap (λ f. if is_beyond i then Some i.line else f) (beyond-append is js)
    ∙ or_else (is_beyond i) i.line (first_observable_beyond is) (first_observable_beyond js)

behind-beyond : (t : Tree) (s : Totals) → (behind summing t s).beyond_line ≡ option_or s.beyond_line (first_observable_beyond (instructions_of t))
unfolding first_observable_beyond
behind-beyond Nothing s = or_none s.beyond_line
behind-beyond (Then i rest) s =
    behind-beyond rest (totals_after i s)
    ∙ or_if s.beyond_line (is_beyond i) i.line (first_observable_beyond (instructions_of rest))
behind-beyond (Block line turns body rest) s =
    let inside = first_observable_beyond (instructions_of body) in
    let later = first_observable_beyond (instructions_of rest) in
    behind-beyond rest (totals_repeated turns s (behind summing body s))
    ∙ ap (λ f. option_or f later) (behind-beyond body s)
    ∙ or_or s.beyond_line inside later
    ∙ ap (option_or s.beyond_line) (sym (beyond-append (instructions_of body) (instructions_of rest)))

-- ---- from the start

pub summed : (t : Tree) → AllFit t → AreTotals t (behind summing t nothing_summed)
summed t fit =
    record {
      records = whole-sum record_sums Fits t nothing_summed fit refl;
      collapses = whole-sum (sums collapse_count (λ t. t.collapses) (λ i t. refl) (λ turns before after. refl)) Fits t nothing_summed fit refl;
      detectors = whole-sum (sums detector_count (λ t. t.detectors) (λ i t. refl) (λ turns before after. refl)) Fits t nothing_summed fit refl;
      faults = whole-sum (sums fault_count (λ t. t.faults) (λ i t. refl) (λ turns before after. refl)) Fits t nothing_summed fit refl;
      steps = whole-sum step_sums Fits t nothing_summed fit refl;
      made = whole-sum (sums made_count (λ t. t.made) (λ i t. refl) (λ turns before after. refl)) Fits t nothing_summed fit refl;
      qubits = whole-greatest (λ i. qubits_named i.targets) (λ t. t.qubits) (record { step = λ i t. refl; close = λ turns before after. refl }) refl t;
      observables = whole-greatest (λ i. observables_to i.operation i.arguments) (λ t. t.observables) (record { step = λ i t. refl; close = λ turns before after. refl }) refl t;
      far_line = behind-far t 0 nothing_summed fit refl;
      beyond_line = behind-beyond t nothing_summed;
    }
