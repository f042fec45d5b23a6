use Rattle.std.proofs.Common.{◌==◌, arith}
use Rattle.stim_lexer.proofs.ScanLemmas.{position_or_len-le-length}
use Rattle.stim_lexer.proofs.scan.cut_at.Goals as goal

pub split_at-requires : goal.split_at-requires
split_at-requires c = omega (arith, position_or_len-le-length (λ b. b == c.args.byte) c.args.text.now, c.place_of.ensures)
