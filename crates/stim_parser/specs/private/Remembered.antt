-- Accepted probabilities that are remembered: what stood between some parentheses, and the form that was asked of it. (This
-- project's own.)
use Rattle.std.specs.Prelude.{◌≡◌, option_map}
use Rattle.step_model.specs.Chances.{chance_of}
use Rattle.stim_parser.specs.declared.last.Accepted.{Accepted}
use Rattle.stim_parser.specs.Arguments.{arguments_in}
use Rattle.stim_parser.specs.Parentheses.{Parentheses}
use Rattle.stim_parser.specs.Probabilities.{chance_in, AreProbabilities}

abbrev pub parentheses_in : Accepted → Parentheses
parentheses_in accepted = record { form = accepted.form; text = accepted.text.now }

-- nothing is wrong with them, and the first is kept
abbrev pub IsAccepted : Accepted → Type 0
IsAccepted accepted =
    AreProbabilities accepted.form (arguments_in accepted.text.now) × (option_map chance_of accepted.chance ≡ chance_in (arguments_in accepted.text.now))
