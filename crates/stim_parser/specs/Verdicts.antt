-- What a circuit says of its lines, as a table, by which each line is judged. The causes of refusals, in the order in which
-- they are asked, behind that of a bad byte, which is asked of a line before it is judged:
--     Block: `}` alone with no open block; a line of REPEAT whose one brace isn't a `{` at its end; any other brace.
--     Name, or LeftOut: no instruction has the name, or it is empty. This is one question: the cause is LeftOut where the
--         name is one of those left out, and else Name.
--     Arguments: a tag or parentheses stay open; a wrong number of arguments; an empty one; one of another form.
--     Probability: the argument isn't a probability that is accepted.
--     Target: a target of another form than the instruction takes.
--     Number: a number beyond its limit.
--     Count: an odd number of targets in pairs; a target where none is taken; REPEAT with other than one.
--     SameQubit: a pair or a product that names one qubit twice.
--     RepeatZero: a block repeated zero times.
--     Depth: a block inside as many as may be open.
-- (Stim's circuit format, github.com/quantumlib/Stim, doc/file_format_stim_circuit.md; the causes and their order are
-- this project's.)
use Rattle.std.specs.Prelude.{ℕ, Bool, true, false, not, ◌&&◌, ◌||◌, if◌then◌else◌, List, [], ◌∷◌, Option, Some}
use Rattle.step_model.specs.declared.fault.Cause.{Cause}
use Rattle.step_model.specs.declared.fault.Cause.TheVariants as cause
use Rattle.stim_lexer.specs.Bytes.{is_empty, after_blanks}
use Rattle.stim_lexer.specs.Instructions as lines
use Rattle.stim_parser.specs.declared.forms.TargetForm.{TargetForm}
use Rattle.stim_parser.specs.declared.forms.TargetForm.TheVariants.{NoTargets}
use Rattle.stim_parser.specs.declared.operation.Operation.{Operation}
use Rattle.stim_parser.specs.declared.target.Target.{Target}
use Rattle.stim_parser.specs.declared.target.Target.TheVariants.{Plain}
use Rattle.stim_parser.specs.Instructions.{argument_form, target_form, keyword_named, is_left_out}
use Rattle.stim_parser.specs.Judging.{Table}
use Rattle.stim_parser.specs.Limits.{are_of_form, has_target_beyond, has_wrong_count, has_same_qubit}
use Rattle.stim_parser.specs.Numbers.{greatest_coordinate}
use Rattle.stim_parser.specs.Targets.{targets_in}

-- an instruction of a line
abbrev pub Instruction : Type 0
Instruction = lines.Instruction Operation Target

-- whether a form of targets takes none
abbrev pub takes_none : TargetForm → Bool
takes_none NoTargets = true
takes_none form = false

-- the targets of a line, where each can be read; those of an instruction that takes none aren't read
unfoldable pub line_targets : TargetForm → List ℕ → Option (List Target)
line_targets form text = if takes_none form then Some [] else targets_in text

-- a wrong number of targets, and any where none is taken; and a qubit that is named twice
abbrev pub refusals_of_targets : TargetForm → List ℕ → List Target → List (Bool × Cause)
refusals_of_targets form text targets =
    ((takes_none form && not (is_empty (after_blanks text))) || has_wrong_count form targets, cause.Count)
    ∷ (has_same_qubit form targets, cause.SameQubit)
    ∷ []

-- how often a block is repeated, by the targets of its line
abbrev pub turns_of : List Target → ℕ
turns_of (Plain n ∷ rest) = n
turns_of targets = 0

-- the table of circuits
abbrev pub circuit_table : Table Operation Target TargetForm
circuit_table =
    record {
      keyword_named = keyword_named;
      refusal_of_name = λ name. if is_left_out name then cause.LeftOut else cause.Name;
      argument_form = argument_form;
      greatest_coordinate = greatest_coordinate;
      target_form = target_form;
      line_targets = line_targets;
      are_of_form = are_of_form;
      has_target_beyond = has_target_beyond;
      refusals_of_targets = refusals_of_targets;
      turns_of = turns_of;
      causes = record {
        block = cause.Block;
        arguments = cause.Arguments;
        probability = cause.Probability;
        target = cause.Target;
        number = cause.Number;
        repeat_zero = cause.RepeatZero;
        depth = cause.Depth;
      };
    }
