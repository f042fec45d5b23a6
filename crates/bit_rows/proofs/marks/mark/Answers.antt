use Rattle.std.proofs.Common.{true, arith, sym, ap, cond}
use Rattle.std.proofs.lemmas.Bool.{ne_eqb}
use Rattle.bit_rows.specs.private.Words.{bit_of}
use Rattle.bit_rows.proofs.BitLaws.{bit_of_put}
use Rattle.bit_rows.proofs.marks.mark.Goals as goal

pub returns-then-word-ge64 : goal.returns-then-word-ge64
returns-then-word-ge64 c = λ b h. sym (ap (λ t. cond t true (bit_of c.args.marks b)) (ne_eqb b c.args.word (λ e. omega (arith, e, h, c.if-word-ge64.true))))

pub returns : goal.returns
returns c = λ b h. bit_of_put c.args.marks c.args.word b (omega (arith, c.if-word-ge64.false))
