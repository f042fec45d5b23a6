use Rattle.std.proofs.Common.{◌==◌, ◌∙◌}
use Rattle.stim_lexer.proofs.ScanLemmas.{unwrap_or-first_byte}
use Rattle.stim_lexer.proofs.scan.place_of.Goals as goal

pub returns : goal.returns
returns c =
    c.unwrap_or.ensures ∙ unwrap_or-first_byte (λ b. b == c.args.byte) c.args.text.now c.memchr.result c.memchr.ensures
