use Rattle.bit_rows.specs.private.Spans.{XorsWithin}
use Rattle.bit_rows.proofs.xor.xor_words.Given as goal

abbrev pub invariant-loop-i : goal.invariant-loop-i
invariant-loop-i l = XorsWithin l.fn.first l.second l.first 0 l.i
