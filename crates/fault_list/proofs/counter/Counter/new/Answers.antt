use Rattle.std.proofs.Common.{sym, arith}
use Rattle.std.proofs.lemmas.Fmt.{decimal_digit}
use Rattle.fault_list.proofs.counter.Counter.new.Goals as goal

pub invariant_of-result : goal.invariant_of-result
invariant_of-result c = record { counted = record { within = omega arith; digits = sym (decimal_digit 0 (omega arith)) } }
