-- What a fact unfolds to compute the program of a text that stands in it.
use Rattle.std.specs.Prelude.{⊤}
use Rattle.stim_lexer.specs.Cut.{cut_of, has_bad_byte}
use Rattle.stim_lexer.specs.Lines.{lines_of, says_nothing}
use Rattle.stim_lexer.specs.Texts.{items_from}
use Rattle.stim_parser.specs.Arguments.{arguments_in}
use Rattle.stim_parser.specs.Instructions.{keyword_named}
use Rattle.stim_parser.specs.Judging.{refusal_of, judged, reading_of}
use Rattle.stim_parser.specs.Limits.{has_wrong_arguments, has_wrong_probability, are_of_form, has_target_beyond, has_wrong_count, has_same_qubit}
use Rattle.stim_parser.specs.Pieces.{pieces_of}
use Rattle.stim_parser.specs.Targets.{target_of, targets_in}
use Rattle.stim_parser.specs.Verdicts.{line_targets}
use Rattle.circuit_walk.specs.Meaning.{made_of}
use Rattle.unroll.specs.private.Counted.{first_far_from}
use Rattle.circuit_walk.specs.Refusals.{first_observable_beyond}
use Rattle.stim_lexer.specs.Reached.{total}

unfoldable pub on_texts : ⊤
unfolding
    lines_of says_nothing cut_of has_bad_byte pieces_of arguments_in has_wrong_arguments has_wrong_probability
    keyword_named are_of_form has_target_beyond has_wrong_count has_same_qubit target_of targets_in line_targets
    items_from refusal_of judged reading_of made_of first_far_from first_observable_beyond total
on_texts = tt
