use Rattle.std.proofs.Common.{◌<◌, ◌^◌, arith, rules}
use Rattle.error_models.proofs.DetectorEndLemmas.{counts_down}
use Rattle.error_models.proofs.detector_end.DetectorEnd.count_down.Goals as goal

pub overflow_sub-self : goal.overflow_sub-self
overflow_sub-self c =
    let held = c.args.self.now in
    let small : held.detector < 2 ^ 32 = omega arith in
    omega (arith, (counts_down held.detector held.len held.bytes small (search rules) held.written c.if-self-gt48.true).some)

pub invariant_of-self : goal.invariant_of-self
invariant_of-self c =
    let held = c.args.self.now in
    let small : held.detector < 2 ^ 32 = omega arith in
    record { written = (counts_down held.detector held.len held.bytes small (search rules) held.written c.if-self-gt48.true).end }
