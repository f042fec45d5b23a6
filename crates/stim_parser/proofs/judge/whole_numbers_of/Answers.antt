use Rattle.std.proofs.Common.{sym}
use Rattle.stim_parser.specs.Arguments.{arguments_in}
use Rattle.stim_parser.proofs.ShortNumberLemmas.{short-right, short-within}
use Rattle.stim_parser.proofs.judge.whole_numbers_of.Goals as goal

pub returns-then-are_short : goal.returns-then-are_short
returns-then-are_short c =
    let arguments = arguments_in c.args.text.now in
    let short = c.are_short.ensures.short c.if-are_short.true in (
      sym (short-within c.args.greatest arguments short c.if-greatest-ge-GREATEST_SHORT.true),
      short-right arguments short (c.are_short.ensures.few c.if-are_short.true),
    )
