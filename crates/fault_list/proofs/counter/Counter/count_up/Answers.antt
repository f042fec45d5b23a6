use Rattle.std.proofs.Common.{◌<◌, ◌^◌, arith, rules}
use Rattle.fault_list.proofs.CounterLemmas.{counts_up, tens_count_up}
use Rattle.fault_list.proofs.counter.Counter.count_up.Goals as goal

pub invariant_of-self : goal.invariant_of-self
invariant_of-self c =
    let held = c.args.self.now in
    let small : held.number < 2 ^ 32 = omega (arith, c.requires) in
    record { counted = counts_up held.number held.before held.last held.digits small held.counted c.if-self-lt57.true }

pub invariant_of-self-then-self-lt57-2 : goal.invariant_of-self-then-self-lt57-2
invariant_of-self-then-self-lt57-2 c =
    let held = c.args.self.now in
    let small : held.number < 2 ^ 32 = omega (arith, c.requires) in
    record { counted = tens_count_up held.number held.before held.last held.digits small (search rules) held.counted c.if-self-gt0.true c.if-self-lt57-2.true c.if-self-lt57.false }
