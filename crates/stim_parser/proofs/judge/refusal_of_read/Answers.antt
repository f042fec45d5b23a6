use Rattle.std.proofs.Common.{sym, ◌∙◌}
use Rattle.stim_parser.proofs.JudgeLemmas.{read-right}
use Rattle.stim_parser.proofs.judge.refusal_of_read.Goals as goal

pub returns-then-are_right : goal.returns-then-are_right
returns-then-are_right g c =
    sym (read-right g.J.Judge.table c.args.depth c.args.keyword c.args.beyond c.args.form c.args.text.now c.args.targets.now c.if-not-beyond.true (sym c.opens_block.ensures ∙ c.if-not-opens_block.true) (c.are_right.ensures c.if-are_right.true))
