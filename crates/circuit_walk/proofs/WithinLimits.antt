-- A circuit that isn't refused is within each limit.
use Rattle.std.proofs.Common.{◌≡◌, ℕ, ◌≤◌, Bool, true, false, ltb, length, Option, None, Some, refl, arith}
use Rattle.std.specs.Prelude.{if◌then◌else◌, List, [], ◌∷◌, nat_lt, option_map}
use Rattle.std.specs.Option.{option_or}
use Rattle.std.proofs.lemmas.Bool.{ltb-false, or_parts}
use Rattle.step_model.specs.declared.fault.Cause.{Cause}
use Rattle.step_model.specs.declared.fault.Cause.TheVariants as cause
use Rattle.stim_lexer.specs.Texts.{refused}
use Rattle.stim_parser.specs.Trees.{Tree}
use Rattle.stim_parser.specs.Verdicts.{Instruction}
use Rattle.stim_lexer.specs.Reached.{greatest_by, instructions_of}
use Rattle.circuit_walk.specs.Meaning.{listing_of}
use Rattle.circuit_walk.specs.Refusals.{circuit_refusal, first_far_line, first_observable_beyond, has_many_detectors, has_many_records, has_many_steps, most_collapses, most_detectors, most_observables, most_records, most_steps, of_circuit}
use Rattle.circuit_walk.specs.Totals.{observable_total, observables_to, step_total}

pub record IsWithinLimits (t : Tree) : Type 0 where
  pub near : first_far_line t ≡ None
  pub records : (listing_of t).records ≤ 8_000_000
  pub collapses : (listing_of t).collapses ≤ 8_000_000
  pub observables : observable_total t ≤ 1024
  pub detectors : length (listing_of t).detectors ≤ 1_000_000
  pub steps : step_total t ≤ 64_000_000

neither : {X : Type 0} (f g : Option X) → option_or f g ≡ None → (f ≡ None) × (g ≡ None)
neither None g h = (refl, h)
neither (Some x) g h = absurd cc

not_first : {X : Type 0} (b : Bool) (x : X) (rest : Option X) → (if b then Some x else rest) ≡ None → (b ≡ false) × (rest ≡ None)
not_first true x rest h = absurd cc
not_first false x rest h = (refl, h)

no_line : (c : Cause) (line : Option ℕ) → option_map (refused c) line ≡ None → line ≡ None
no_line c None h = refl
no_line c (Some line) h = absurd cc

not_held : (b : Bool) (c : Cause) → of_circuit b c ≡ None → b ≡ false
not_held true c h = absurd cc
not_held false c h = refl

few_observables : (is : List Instruction) → first_observable_beyond is ≡ None → greatest_by (λ i. observables_to i.operation i.arguments) is ≤ 1024
unfolding first_observable_beyond
few_observables [] h = omega arith
few_observables (i ∷ is) h =
    let n = observables_to i.operation i.arguments in
    let parts = not_first (nat_lt most_observables n) i.line (first_observable_beyond is) h in
    omega (arith, ltb-false most_observables n parts.0, few_observables is parts.1)

pub within_limits : (t : Tree) → circuit_refusal t ≡ None → IsWithinLimits t
within_limits t h =
    let program = listing_of t in
    let steps = of_circuit (has_many_steps t) cause.Steps in
    let detectors = option_or (of_circuit (has_many_detectors program) cause.Detectors) steps in
    let observables = option_or (option_map (refused cause.Detectors) (first_observable_beyond (instructions_of t))) detectors in
    let records = option_or (of_circuit (has_many_records program) cause.Records) observables in
    let a = neither (option_map (refused cause.RecordBeforeStart) (first_far_line t)) records h in
    let b = neither (of_circuit (has_many_records program) cause.Records) observables a.1 in
    let c = neither (option_map (refused cause.Detectors) (first_observable_beyond (instructions_of t))) detectors b.1 in
    let d = neither (of_circuit (has_many_detectors program) cause.Detectors) steps c.1 in
    let few = or_parts (ltb most_records program.records) (ltb most_collapses program.collapses) (not_held (has_many_records program) cause.Records b.0) in
    record {
      near = no_line cause.RecordBeforeStart (first_far_line t) a.0;
      records = ltb-false most_records program.records few.0;
      collapses = ltb-false most_collapses program.collapses few.1;
      observables = few_observables (instructions_of t) (no_line cause.Detectors (first_observable_beyond (instructions_of t)) c.0);
      detectors = ltb-false most_detectors (length program.detectors) (not_held (has_many_detectors program) cause.Detectors d.0);
      steps = ltb-false most_steps (step_total t) (not_held (has_many_steps t) cause.Steps d.1);
    }
