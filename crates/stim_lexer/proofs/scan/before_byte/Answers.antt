use Rattle.std.proofs.Common.{◌==◌, sym}
use Rattle.stim_lexer.proofs.Nowhere.{all_before}
use Rattle.stim_lexer.proofs.scan.before_byte.Goals as goal

pub returns-then-nowhere : goal.returns-then-nowhere
returns-then-nowhere c = sym (all_before (λ b. b == c.args.byte) c.args.text.now (c.requires c.if-nowhere.true))
