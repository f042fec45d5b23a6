use Rattle.std.proofs.Common.{◌≡◌, ◌+◌, ◌++◌, ◌≤◌, ◌^◌, drop, map}
use Rattle.stim_lexer.specs.Reached.{greatest_by}
use Rattle.dem_text.specs.Meanings.{detectors_to, observables_to}
use Rattle.dem_text.specs.Shifts.{shifted_target}
use Rattle.dem_text.specs.private.Numbered.{numbers_of}
use Rattle.dem_text.proofs.flips.read_numbers.Given as goal

abbrev pub invariant-loop-target : goal.invariant-loop-target
invariant-loop-target g l = record {
  numbers :
      l.numbers.items ++ numbers_of l.detectors (map (shifted_target l.shift) (drop l.target-index l.targets))
      ≡ numbers_of l.detectors (map (shifted_target l.shift) l.targets);
  low : greatest_by detectors_to (map (shifted_target l.shift) (drop l.target-index l.targets)) ≤ 2 ^ 32;
  few : l.detectors + greatest_by observables_to (map (shifted_target l.shift) (drop l.target-index l.targets)) ≤ 2 ^ 32;
}
