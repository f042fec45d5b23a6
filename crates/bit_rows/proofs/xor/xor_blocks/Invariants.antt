use Rattle.std.proofs.Common.{◌*◌}
use Rattle.bit_rows.specs.private.Spans.{XorsWithin}
use Rattle.bit_rows.proofs.xor.xor_blocks.Given as goal

abbrev pub invariant-loop-block : goal.invariant-loop-block
invariant-loop-block l = XorsWithin l.fn.first l.second l.first 0 (l.block * 8)
