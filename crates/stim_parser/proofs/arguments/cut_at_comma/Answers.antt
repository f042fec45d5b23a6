use Rattle.std.proofs.Common.{arith}
use Rattle.std.proofs.lemmas.List.{take_rest}
use Rattle.stim_parser.proofs.ArgumentLemmas.{split-last, split-more}
use Rattle.stim_parser.proofs.arguments.cut_at_comma.Goals as goal

pub returns-in-empty-clause-parts : goal.returns-in-empty-clause-parts
returns-in-empty-clause-parts c =
    split-last c.args.text.now _ c.cut_near.result.1.now c.cut_near.ensures.before c.cut_near.ensures.after (omega arith)

pub returns-in-len1-up-clause-parts : goal.returns-in-len1-up-clause-parts
returns-in-len1-up-clause-parts c =
    split-more c.args.text.now _ c.cut_near.result.1.now _ c.cut_near.ensures.before c.cut_near.ensures.after (omega arith) (take_rest c.cut_near.result.1.now 1)
