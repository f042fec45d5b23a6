-- A circuit that isn't refused is within each limit.
use Rattle.std.proofs.Common.{◌≡◌, ℕ, ◌≤◌, Bool, true, false, ltb, Option, None, Some, refl}
use Rattle.std.specs.Prelude.{if◌then◌else◌, option_map}
use Rattle.std.specs.Option.{option_or}
use Rattle.std.proofs.lemmas.Bool.{ltb-false, or_parts}
use Rattle.step_model.specs.declared.fault.Cause.{Cause}
use Rattle.step_model.specs.declared.fault.Cause.TheVariants as cause
use Rattle.stim_lexer.specs.Texts.{refused}
use Rattle.stim_parser.specs.Trees.{Tree}
use Rattle.stim_lexer.specs.Reached.{instructions_of}
use Rattle.circuit_walk.specs.Refusals.{first_observable_beyond, has_many_steps, most_collapses, most_detectors, most_records, most_steps, of_circuit}
use Rattle.unroll.specs.private.Counted.{counts_many_detectors, counts_many_records, first_far_from, refusal_counted}
use Rattle.circuit_walk.specs.Totals.{step_total}
use Rattle.unroll.specs.private.MadeTotals.{collapse_total, detector_total, record_total}

pub record IsWithinLimits (t : Tree) : Type 0 where
  pub near : first_far_from 0 t ≡ None
  pub records : record_total t ≤ 8_000_000
  pub collapses : collapse_total t ≤ 8_000_000
  pub observables : first_observable_beyond (instructions_of t) ≡ None
  pub detectors : detector_total t ≤ 1_000_000
  pub steps : step_total t ≤ 64_000_000

pub neither : {X : Type 0} (f g : Option X) → option_or f g ≡ None → (f ≡ None) × (g ≡ None)
neither None g h = (refl, h)
neither (Some x) g h = absurd cc

pub not_first : {X : Type 0} (b : Bool) (x : X) (rest : Option X) → (if b then Some x else rest) ≡ None → (b ≡ false) × (rest ≡ None)
not_first true x rest h = absurd cc
not_first false x rest h = (refl, h)

no_line : (c : Cause) (line : Option ℕ) → option_map (refused c) line ≡ None → line ≡ None
no_line c None h = refl
no_line c (Some line) h = absurd cc

not_held : (b : Bool) (c : Cause) → of_circuit b c ≡ None → b ≡ false
not_held true c h = absurd cc
not_held false c h = refl

pub within_limits : (t : Tree) → refusal_counted t ≡ None → IsWithinLimits t
within_limits t h =
    let steps = of_circuit (has_many_steps t) cause.Steps in
    let detectors = option_or (of_circuit (counts_many_detectors t) cause.Detectors) steps in
    let observables = option_or (option_map (refused cause.Detectors) (first_observable_beyond (instructions_of t))) detectors in
    let records = option_or (of_circuit (counts_many_records t) cause.Records) observables in
    let a = neither (option_map (refused cause.RecordBeforeStart) (first_far_from 0 t)) records h in
    let b = neither (of_circuit (counts_many_records t) cause.Records) observables a.1 in
    let c = neither (option_map (refused cause.Detectors) (first_observable_beyond (instructions_of t))) detectors b.1 in
    let d = neither (of_circuit (counts_many_detectors t) cause.Detectors) steps c.1 in
    let few = or_parts (ltb most_records (record_total t)) (ltb most_collapses (collapse_total t)) (not_held (counts_many_records t) cause.Records b.0) in
    record {
      near = no_line cause.RecordBeforeStart (first_far_from 0 t) a.0;
      records = ltb-false most_records (record_total t) few.0;
      collapses = ltb-false most_collapses (collapse_total t) few.1;
      observables = no_line cause.Detectors (first_observable_beyond (instructions_of t)) c.0;
      detectors = ltb-false most_detectors (detector_total t) (not_held (counts_many_detectors t) cause.Detectors d.0);
      steps = ltb-false most_steps (step_total t) (not_held (has_many_steps t) cause.Steps d.1);
    }
