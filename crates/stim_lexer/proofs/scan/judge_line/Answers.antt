use Rattle.std.proofs.Common.{sym, arith}
use Rattle.stim_lexer.proofs.PlainLemmas.{line_plain, plain_behind}
use Rattle.stim_lexer.proofs.scan.judge_line.Goals as goal

pub returns-then-line-plain-clause-special : goal.returns-then-line-plain-clause-special
returns-then-line-plain-clause-special c = sym (line_plain _ c.args.text.now c.args.line.now c.args.after.now c.requires.plain c.requires.first (omega arith))

pub returns-then-line-plain-clause-plain : goal.returns-then-line-plain-clause-plain
returns-then-line-plain-clause-plain c =
    plain_behind _ _ c.args.text.now c.args.line.now c.args.after.now c.requires.plain c.requires.first
    (omega (arith, c.min.ensures)) (omega (arith, c.min.ensures))
