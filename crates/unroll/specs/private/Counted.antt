-- Which circuits are refused, where what they make is counted on their trees. A record target is judged at the first turn
-- of all blocks around it, and the blocks before it count with all their turns.
use Rattle.std.specs.Prelude.{ℕ, ◌+◌, ◌*◌, nat_lt, Bool, ◌||◌, if◌then◌else◌, Option, None, Some, option_map}
use Rattle.std.specs.Option.{option_or}
use Rattle.stim_lexer.specs.Reached.{instructions_of}
use Rattle.step_model.specs.declared.fault.Fault.{Fault}
use Rattle.step_model.specs.declared.fault.Cause.TheVariants as cause
use Rattle.stim_lexer.specs.Texts.{refused}
use Rattle.stim_parser.specs.Trees.{Tree}
use Rattle.stim_lexer.specs.Trees.{Nothing, Then, Block}
use Rattle.unroll.specs.private.MadeTotals.{collapse_total, detector_total, record_count, record_total}
use Rattle.circuit_walk.specs.Refusals.{first_observable_beyond, has_many_steps, most_collapses, most_detectors, most_records, of_circuit, reaches_far}

-- the first line of a tree that reaches back before the first record, where this many records come before the tree
unfoldable pub first_far_from : ℕ → Tree → Option ℕ
first_far_from r Nothing = None
first_far_from r (Then i rest) =
    if reaches_far r i.targets then Some i.line else first_far_from (r + record_count i) rest
first_far_from r (Block line turns body rest) =
    option_or (first_far_from r body) (first_far_from (r + turns * record_total body) rest)

abbrev pub counts_many_records : Tree → Bool
counts_many_records tree = nat_lt most_records (record_total tree) || nat_lt most_collapses (collapse_total tree)

abbrev pub counts_many_detectors : Tree → Bool
counts_many_detectors tree = nat_lt most_detectors (detector_total tree)

-- the refusal of a tree, where it has one
abbrev pub refusal_counted : Tree → Option Fault
refusal_counted tree =
    option_or (option_map (refused cause.RecordBeforeStart) (first_far_from 0 tree))
    (option_or (of_circuit (counts_many_records tree) cause.Records)
    (option_or (option_map (refused cause.Detectors) (first_observable_beyond (instructions_of tree)))
    (option_or (of_circuit (counts_many_detectors tree) cause.Detectors) (of_circuit (has_many_steps tree) cause.Steps))))
