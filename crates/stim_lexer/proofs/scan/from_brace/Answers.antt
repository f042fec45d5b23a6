use Rattle.std.proofs.Common.{sym}
use Rattle.stim_lexer.specs.Bytes.{is_brace}
use Rattle.stim_lexer.proofs.Nowhere.{nothing_from}
use Rattle.stim_lexer.proofs.scan.from_brace.Goals as goal

pub returns-then-nowhere : goal.returns-then-nowhere
returns-then-nowhere c = sym (nothing_from is_brace c.args.text.now (c.requires c.if-nowhere.true))
