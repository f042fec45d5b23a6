-- Every circuit that isn't refused has a well-formed program.
use Rattle.std.proofs.Common.{◌≡◌, None, refl, ◌∙◌, arith}
use Rattle.std.proofs.lemmas.List.FromFn.{length-map-range_with_len}
use Rattle.std.proofs.lemmas.List.Sums.{AllPass-from_list_all}
use Rattle.step_model.specs.WellFormed.{IsWellFormed, step_fits}
use Rattle.stim_lexer.specs.Reached.{reached}
use Rattle.stim_parser.specs.Circuits.{IsCircuit}
use Rattle.stim_parser.specs.Trees.{Tree}
use Rattle.circuit_walk.specs.Meaning.{at_start, listing_of, made_in}
use Rattle.circuit_walk.specs.Refusals.{circuit_refusal}
use Rattle.circuit_walk.specs.TargetsMade.{operation_adds}
use Rattle.circuit_walk.specs.Totals.{observable_total, qubit_total}
use Rattle.circuit_walk.proofs.CircuitInstructions.{circuit_fits}
use Rattle.circuit_walk.proofs.CoordinatesMade.{coordinates_fit, coordinates_given}
use Rattle.circuit_walk.proofs.FeedbackEarlier.{feedback_earlier}
use Rattle.circuit_walk.proofs.MadeFaults.{faults_fit}
use Rattle.circuit_walk.proofs.MadeNumbers.{collapses_counted, faults_numbered, flat-faults, flat-records, records_numbered}
use Rattle.circuit_walk.proofs.RecordsNamed.{detectors_fit, observables_fit}
use Rattle.circuit_walk.proofs.SoundInstructions.{AreSound, are_sound}
use Rattle.circuit_walk.proofs.StepsFit.{steps_fit}
use Rattle.circuit_walk.proofs.WithinLimits.{within_limits}

circuit_sound : (t : Tree) → IsCircuit t → circuit_refusal t ≡ None → AreSound (qubit_total t) (listing_of t).records at_start (reached t)
circuit_sound t circuit accepted =
    are_sound (qubit_total t) (listing_of t).records at_start (reached t) (circuit_fits t circuit) (within_limits t accepted).near
    (omega arith)

pub well_formed : (t : Tree) → IsCircuit t → circuit_refusal t ≡ None → IsWellFormed (listing_of t)
well_formed t circuit accepted =
    let program = listing_of t in
    let n = program.qubits in
    let total = program.records in
    let instructions = reached t in
    let limits = within_limits t accepted in
    let sound = circuit_sound t circuit accepted in
    let observables = length-map-range_with_len (λ k. made_in t (λ b i. operation_adds k b.records i.operation i.arguments i.targets)) 0 (observable_total t) in
    record {
      steps_fit = AllPass-from_list_all (step_fits program) program.steps (steps_fit program total at_start instructions sound refl refl);
      collapses_counted = collapses_counted program.steps;
      records_in_order = flat-records program.steps ∙ records_numbered n at_start instructions;
      feedback_earlier = feedback_earlier n total at_start instructions sound;
      faults_in_order = flat-faults program.steps ∙ faults_numbered n at_start instructions;
      faults_fit = faults_fit n total at_start instructions sound;
      detectors_fit = detectors_fit n total at_start instructions sound;
      observables_fit = observables_fit n total (observable_total t) at_start instructions sound;
      coordinates_given = coordinates_given n at_start instructions;
      coordinates_fit = coordinates_fit n at_start t refl (circuit_fits t circuit) limits.steps;
      few_detectors = limits.detectors;
      few_observables = omega (arith, observables, limits.observables);
    }
