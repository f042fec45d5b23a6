use Rattle.std.proofs.Common.{arith}
use Rattle.stim_lexer.proofs.PlainLemmas.{line_plain, plain_behind}
use Rattle.stim_lexer.proofs.scan.judge_far_line.Goals as goal

pub has_special-special-requires : goal.has_special-special-requires
has_special-special-requires c = line_plain _ c.args.text.now c.args.line.now c.args.after.now c.plain_front-plain.ensures c.requires

pub returns-clause-plain : goal.returns-clause-plain
returns-clause-plain c =
    plain_behind _ _ c.args.text.now c.args.line.now c.args.after.now c.plain_front-plain.ensures c.requires
    (omega (arith, c.min.ensures, c.saturating_sub.ensures)) (omega (arith, c.min.ensures))
