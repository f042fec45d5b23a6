use Rattle.std.proofs.Common.{◌≡◌, false, drop}
use Rattle.std.specs.Prelude.{max}
use Rattle.dem_text.specs.Limits.{has_target_beyond}
use Rattle.dem_text.specs.Meanings.{detectors_to, observables_to}
use Rattle.stim_lexer.specs.Reached.{greatest_by}
use Rattle.dem_text.proofs.brief.extent_of.Given as goal

abbrev pub invariant-loop-target : goal.invariant-loop-target
invariant-loop-target l = record {
  detectors : max l.found.detectors (greatest_by detectors_to (drop l.target-index l.targets)) ≡ greatest_by detectors_to l.targets;
  observables : max l.found.observables (greatest_by observables_to (drop l.target-index l.targets)) ≡ greatest_by observables_to l.targets;
  within : has_target_beyond (drop l.target-index l.targets) ≡ false;
}
