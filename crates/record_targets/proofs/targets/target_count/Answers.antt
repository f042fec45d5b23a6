use Rattle.std.proofs.Common.{length-append, arith}
use Rattle.record_targets.proofs.targets.target_count.Goals as goal

pub returns-clause-count : goal.returns-clause-count
returns-clause-count g c =
    let program = c.args.program.now.listing in
    omega (arith, c.target_count.ensures, length-append program.detectors program.observables)

pub returns-clause-few : goal.returns-clause-few
returns-clause-few g c =
    omega (arith, c.target_count.ensures, c.well_formed-2.ensures.few_detectors, c.well_formed-2.ensures.few_observables)
