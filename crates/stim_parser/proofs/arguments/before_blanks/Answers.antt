use Rattle.std.proofs.Common.{◌∙◌, sym, arith}
use Rattle.stim_parser.proofs.ArgumentLemmas.{before_blanks-is}
use Rattle.stim_parser.proofs.arguments.before_blanks.Goals as goal

pub returns-then-not-is_blank : goal.returns-then-not-is_blank
returns-then-not-is_blank c =
    before_blanks-is c.args.text.now c.loop-end.end c.loop-end.invariant.within c.loop-end.invariant.blanks
    (λ some. sym c.is_blank.ensures ∙ c.if-not-is_blank.true)

pub returns : goal.returns
returns c =
    before_blanks-is c.args.text.now 0 (omega arith) (λ k le lt. c.loop-end.invariant.blanks k (omega arith) lt)
    (λ some. absurd (omega arith))
