-- A circuit is refused for what it makes exactly where it is for what is counted on its tree: the first line that is
-- reached and reaches back too far is the first to do so at the first turns of blocks, for records only grow.
use Rattle.std.proofs.Common.{◌≡◌, ℕ, zero, suc, ◌+◌, ◌*◌, ◌<◌, ◌≤◌, Bool, true, false, List, [], ◌∷◌, ◌++◌, Option, None, Some, refl, sym, ap, ap₂, ◌∙◌, arith}
use Rattle.std.specs.Prelude.{nat_lt, ◌||◌, if◌then◌else◌, option_map, slice_get}
use Rattle.std.specs.Option.{option_or}
use Rattle.stim_lexer.specs.Reached.{copies, reached, instructions_of}
use Rattle.step_model.specs.declared.fault.Fault.{Fault}
use Rattle.step_model.specs.declared.fault.Cause.TheVariants as cause
use Rattle.stim_parser.specs.declared.target.Target.{Target}
use Rattle.stim_parser.specs.declared.target.Target.TheVariants.{Back}
use Rattle.std.proofs.lemmas.Bool.{le-ltb, ltb-false, or_parts}
use Rattle.stim_parser.specs.Circuits.{AllFit}
use Rattle.stim_lexer.specs.Texts.{refused}
use Rattle.stim_parser.specs.Trees.{Tree}
use Rattle.stim_lexer.specs.Trees.{Nothing, Then, Block}
use Rattle.stim_parser.specs.Verdicts.{Instruction}
use Rattle.circuit_walk.specs.Before.{Before}
use Rattle.unroll.specs.private.Counted.{counts_many_detectors, counts_many_records, first_far_from, refusal_counted}
use Rattle.unroll.specs.private.MadeTotals.{record_count, record_total}
use Rattle.circuit_walk.specs.Meaning.{after, at_start, listing_of, made_of}
use Rattle.circuit_walk.specs.Refusals.{first_observable_beyond, first_far_line, has_many_detectors, has_many_records, has_many_steps, is_before_start, most_collapses, most_detectors, most_records, of_circuit, reaches_far, circuit_refusal}
use Rattle.circuit_walk.specs.Totals.{qubit_total}
use Rattle.unroll.proofs.ListedTotals.{lengths}
use Rattle.unroll.proofs.MadeCounts.{after-records, after_all, after_all-records, made_of-append}
use Rattle.unroll.proofs.ReachedCounts.{sum-copies, sum-reached}
use Rattle.unroll.proofs.RefusalLemmas.{neither}

-- ---- first elements

first-append : (xs ys : List ℕ) → slice_get (xs ++ ys) 0 ≡ option_or (slice_get xs 0) (slice_get ys 0)
first-append [] ys = refl
first-append (x ∷ xs) ys = refl

or-none : (f g : Option ℕ) → f ≡ None → g ≡ None → option_or f g ≡ None
or-none f g e h = ap₂ option_or e h

or-first : (f g : Option ℕ) → (f ≡ None → g ≡ None) → option_or f g ≡ f
or-first None g h = h refl
or-first (Some x) g h = refl

either-line : (far : Bool) (line : ℕ) (rest : Option ℕ) → option_or (slice_get (if far then line ∷ [] else []) 0) rest ≡ (if far then Some line else rest)
either-line true line rest = refl
either-line false line rest = refl

no-line : (far : Bool) (line : ℕ) → slice_get (if far then line ∷ [] else []) 0 ≡ None → far ≡ false
no-line true line h = absurd cc
no-line false line h = refl

-- what is near stays near behind more records
near-target : (r s : ℕ) (t : Target) → r ≤ s → is_before_start r t ≡ false → is_before_start s t ≡ false
near-target r s (Back k) le h = le-ltb s k (omega (arith, ltb-false r k h, le))
near-target r s t le h = refl

near-later : (r s : ℕ) (ts : List Target) → r ≤ s → reaches_far r ts ≡ false → reaches_far s ts ≡ false
near-later r s [] le h = refl
near-later r s (t ∷ ts) le h =
    let parts = or_parts (is_before_start r t) (reaches_far r ts) h in
    ap₂ ◌||◌ (near-target r s t le parts.0) (near-later r s ts le parts.1)

module _ (n : ℕ) where
  -- the line of an instruction that reaches back too far
  abbrev far_here : Before → Instruction → List ℕ
  far_here b i = if reaches_far b.records i.targets then i.line ∷ [] else []

  -- the first of instructions
  abbrev far_in : Before → List Instruction → Option ℕ
  far_in b is = slice_get (made_of n far_here b is) 0

  in-both : (b : Before) (is js : List Instruction) → far_in b (is ++ js) ≡ option_or (far_in b is) (far_in (after_all n b is) js)
  in-both b is js =
      ap (λ lines. slice_get lines 0) (made_of-append n far_here b is js)
      ∙ first-append (made_of n far_here b is) (made_of n far_here (after_all n b is) js)

  in-more : (b : Before) (i : Instruction) (is : List Instruction) → far_in b (i ∷ is) ≡ option_or (slice_get (far_here b i) 0) (far_in (after n b i) is)
  unfolding made_of
  in-more b i is = first-append (far_here b i) (made_of n far_here (after n b i) is)

  in-none : (b : Before) → far_in b [] ≡ None
  unfolding made_of
  in-none b = refl

  -- none where there was none before fewer records
  none-later : (b c : Before) (is : List Instruction) → b.records ≤ c.records → far_in b is ≡ None → far_in c is ≡ None
  none-later b c [] le h = in-none c
  none-later b c (i ∷ is) le h =
      let parts = neither (slice_get (far_here b i) 0) (far_in (after n b i) is) (sym (in-more b i is) ∙ h) in
      let near = near-later b.records c.records i.targets le (no-line (reaches_far b.records i.targets) i.line parts.0) in
      in-more c i is
      ∙ or-none (slice_get (far_here c i) 0) (far_in (after n c i) is)
      (ap (λ (far : Bool). slice_get (if far then i.line ∷ [] else []) 0) near)
      (none-later (after n b i) (after n c i) is (omega (arith, after-records n b i, after-records n c i, le)) parts.1)

  none-copies : (b c : Before) (turns : ℕ) (is : List Instruction) → b.records ≤ c.records → far_in b is ≡ None → far_in c (copies turns is) ≡ None
  none-copies b c zero is le h = in-none c
  none-copies b c (suc turns) is le h =
      in-both c is (copies turns is)
      ∙ or-none (far_in c is) (far_in (after_all n c is) (copies turns is)) (none-later b c is le h)
      (none-copies b (after_all n c is) turns is (omega (arith, after_all-records n c is, le)) h)

  -- the first turn of a block says it for all
  first-turn : (b : Before) (turns : ℕ) (is : List Instruction) → 0 < turns → far_in b (copies turns is) ≡ far_in b is
  first-turn b zero is some = absurd (omega (arith, some))
  first-turn b (suc turns) is some =
      in-both b is (copies turns is)
      ∙ or-first (far_in b is) (far_in (after_all n b is) (copies turns is))
      (none-copies b (after_all n b is) turns is (omega (arith, after_all-records n b is)))

  far-tree : (b : Before) (t : Tree) → AllFit t → far_in b (reached t) ≡ first_far_from b.records t
  unfolding first_far_from
  far-tree b Nothing fit = in-none b
  far-tree b (Then i rest) fit =
      in-more b i (reached rest)
      ∙ either-line (reaches_far b.records i.targets) i.line (far_in (after n b i) (reached rest))
      ∙ ap (λ (later : Option ℕ). if reaches_far b.records i.targets then Some i.line else later)
      (far-tree (after n b i) rest fit.1 ∙ ap (λ r. first_far_from r rest) (after-records n b i))
  far-tree b (Block line turns body rest) fit =
      let before = copies turns (reached body) in
      let made : (after_all n b before).records ≡ b.records + turns * record_total body =
      after_all-records n b before
      ∙ ap (λ k. b.records + k) (sum-copies record_count turns (reached body) ∙ ap (λ k. turns * k) (sum-reached record_count body)) in
      in-both b before (reached rest)
      ∙ ap₂ option_or
      (first-turn b turns (reached body) fit.0 ∙ far-tree b body fit.1)
      (far-tree (after_all n b before) rest fit.2 ∙ ap (λ r. first_far_from r rest) made)

-- ---- refusals

abbrev refusal_by : Tree → Option ℕ → Bool → Bool → Option Fault
refusal_by t far records detectors =
    option_or (option_map (refused cause.RecordBeforeStart) far)
    (option_or (of_circuit records cause.Records)
    (option_or (option_map (refused cause.Detectors) (first_observable_beyond (instructions_of t)))
    (option_or (of_circuit detectors cause.Detectors) (of_circuit (has_many_steps t) cause.Steps))))

pub refused-as-counted : (t : Tree) → AllFit t → refusal_counted t ≡ circuit_refusal t
refused-as-counted t fit =
    let far : first_far_line t ≡ first_far_from 0 t = far-tree (qubit_total t) at_start t fit in
    let records : has_many_records (listing_of t) ≡ counts_many_records t = ap₂ (λ r k. nat_lt most_records r || nat_lt most_collapses k) (lengths t).records (lengths t).collapses in
    let detectors : has_many_detectors (listing_of t) ≡ counts_many_detectors t = ap (nat_lt most_detectors) (lengths t).detectors in
    sym (ap (λ f. refusal_by t f (has_many_records (listing_of t)) (has_many_detectors (listing_of t))) far
    ∙ ap₂ (refusal_by t (first_far_from 0 t)) records detectors)
