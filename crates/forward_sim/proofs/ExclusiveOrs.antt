-- Whether exactly one of two values is true, as `^` computes it.
use Rattle.std.proofs.Common.{◌≡◌, Bool, true, false, not, ap}
use Rattle.std.proofs.Math.Bool.{beq}
use Rattle.pauli_word.specs.Parity.{exclusive_or}

pub exclusive_or_is : (a b c : Bool) → b ≡ c → not (beq a b) ≡ exclusive_or a c
exclusive_or_is false false c same = same
exclusive_or_is false true c same = same
exclusive_or_is true false c same = ap not same
exclusive_or_is true true c same = ap not same
