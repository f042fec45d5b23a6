use Rattle.std.proofs.Common.{◌++◌, refl, ap}
use Rattle.step_model.proofs.Pushing.{Pushes-trans}
use Rattle.fault_list.specs.FaultLines.{fault_line}
use Rattle.fault_list.proofs.HeldLineLemmas.{all_gone, gone_too}
use Rattle.fault_list.proofs.text.write_line.Goals as goal

pub returns-in-Some-2-clause-pushed : goal.returns-in-Some-2-clause-pushed
returns-in-Some-2-clause-pushed g c = gone_too c.in-Some.ensures.pushed c.push.ensures

pub returns-in-None-clause-pushed : goal.returns-in-None-clause-pushed
returns-in-None-clause-pushed g c =
    let line = fault_line c.args.program.now.listing c.args.fault.number in
    let rests = c.in-None.ensures.rests refl in
    let pushed = rw (rests.0, rests.1) at (Pushes-trans c.push-in-None.ensures c.write_long_line.ensures.pushed) in
    all_gone (ap (λ l. l ++ line) (c.in-None.ensures.kept refl)) pushed
