use Rattle.std.proofs.Common.{◌≡◌, take}
use Rattle.std.specs.List.{list_any}
use Rattle.stim_lexer.specs.private.Special.{is_special}
use Rattle.stim_lexer.proofs.scan.any_special.Given as goal

abbrev pub invariant-loop-byte : goal.invariant-loop-byte
invariant-loop-byte l = l.special ≡ list_any is_special (take l.byte-index l.line)
