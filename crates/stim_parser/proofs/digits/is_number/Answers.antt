use Rattle.std.proofs.Common.{sym, ◌∙◌}
use Rattle.stim_parser.proofs.DigitLemmas.{is_number-digits}
use Rattle.stim_parser.proofs.digits.is_number.Goals as goal

pub returns-then-not-is_empty : goal.returns-then-not-is_empty
returns-then-not-is_empty c =
    c.are_digits.ensures ∙ sym (is_number-digits c.args.text.now c.is_empty.result c.is_empty.ensures c.if-not-is_empty.true)
