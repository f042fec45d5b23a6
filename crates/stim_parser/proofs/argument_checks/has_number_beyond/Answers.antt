use Rattle.std.proofs.Common.{◌∙◌, sym}
use Rattle.stim_parser.specs.Numbers.{is_number_beyond, value_of}
use Rattle.stim_parser.proofs.CheckLemmas.{any_lent}
use Rattle.stim_parser.proofs.argument_checks.has_number_beyond.Goals as goal

pub returns-in-OneNumber : goal.returns-in-OneNumber
returns-in-OneNumber c =
    λ greatest. rw c.in-OneNumber.is (c.are_numbers_beyond.ensures ∙ sym (any_lent (λ text. is_number_beyond (value_of text)) c.args.arguments.now))
