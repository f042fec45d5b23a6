use Rattle.std.proofs.Common.{◌≡◌, take}
use Rattle.std.specs.List.{list_any}
use Rattle.stim_lexer.specs.private.Special.{is_rare}
use Rattle.stim_lexer.proofs.scan.any_rare.Given as goal

abbrev pub invariant-loop-byte : goal.invariant-loop-byte
invariant-loop-byte l = l.rare ≡ list_any is_rare (take l.byte-index l.piece)
