-- What an error model says of its lines, as a table, by which each line is judged. The causes of refusals, in the order in
-- which they are asked:
--     DemBlock: `}` alone with no open block; a line of `repeat` whose one brace isn't a `{` at its end; any other brace.
--     DemName: the name is empty or unknown.
--     DemArguments: a tag or parentheses stay open; a wrong number of arguments; an empty one; one of another form, or a
--         probability that isn't accepted.
--     DemTarget: a target of another form than the line takes; `shift_detectors` or `repeat` with other than one.
--     DemNumber: a number beyond its limit.
--     DemRepeatZero: a block repeated zero times.
--     DemDepth: a block inside as many as may be open.
-- (Stim's detector error model format, github.com/quantumlib/Stim, doc/file_format_dem_detector_error_model.md; the causes
-- and their order are this project's.)
use Rattle.std.specs.Prelude.{ℕ, List, [], ◌∷◌}
use Rattle.step_model.specs.declared.fault.Cause.TheVariants as cause
use Rattle.stim_lexer.specs.Instructions as lines
use Rattle.stim_parser.specs.Judging.{Table}
use Rattle.stim_parser.specs.Numbers.{greatest_number}
use Rattle.dem_text.specs.declared.target.TargetForm.{TargetForm}
use Rattle.dem_text.specs.declared.operation.Operation.{Operation}
use Rattle.dem_text.specs.declared.target.Target.{Target}
use Rattle.dem_text.specs.declared.target.Target.TheVariants.{Plain}
use Rattle.dem_text.specs.Instructions.{argument_form, target_form, keyword_named}
use Rattle.dem_text.specs.Limits.{are_of_form, has_target_beyond}
use Rattle.dem_text.specs.Targets.{targets_in}

-- an instruction of a line
abbrev pub Instruction : Type 0
Instruction = lines.Instruction Operation Target

-- how often a block is repeated, or by how much detectors shift, by the targets of the line
abbrev pub number_in : List Target → ℕ
number_in (Plain n ∷ rest) = n
number_in targets = 0

-- the table of error models
abbrev pub model_table : Table Operation Target TargetForm
model_table =
    record {
      keyword_named = keyword_named;
      refusal_of_name = λ name. cause.DemName;
      argument_form = argument_form;
      greatest_coordinate = greatest_number;
      target_form = target_form;
      line_targets = λ form. targets_in;
      are_of_form = are_of_form;
      has_target_beyond = λ form. has_target_beyond;
      refusals_of_targets = λ form text targets. [];
      turns_of = number_in;
      causes = record {
        block = cause.DemBlock;
        arguments = cause.DemArguments;
        probability = cause.DemArguments;
        target = cause.DemTarget;
        number = cause.DemNumber;
        repeat_zero = cause.DemRepeatZero;
        depth = cause.DemDepth;
      };
    }
