use Rattle.std.proofs.Common.{◌≡◌, ◌++◌, drop, take}
use Rattle.dem_text.specs.private.Tables.{most_detectors}
use Rattle.dem_text.proofs.prediction.symptom_of.Given as goal

abbrev pub invariant-loop-detector : goal.invariant-loop-detector
invariant-loop-detector g l = l.found.items ≡ take l.detector l.bits

abbrev pub invariant-loop-observable : goal.invariant-loop-observable
invariant-loop-observable g l =
    l.found.items ≡ take l.fn.counts.detectors l.bits ++ take l.observable (drop most_detectors l.bits)
