-- Which circuits have no program. First, those with a record target that reaches back before the first record; the
-- refusal names the first line that has one, of the lines as they are reached. Then, for the whole circuit: more than
-- 8,000,000 records or collapses (the projective measurements in measurements and resets); the first line that names an
-- observable above 1,023; more than 1,000,000 detectors; more than 64,000,000 steps. (`rec[-k]` is Stim's,
-- github.com/quantumlib/Stim, doc/file_format_stim_circuit.md; the limits are this project's.)
use Rattle.std.specs.Prelude.{ℕ, nat_lt, Bool, false, ◌||◌, if◌then◌else◌, List, [], ◌∷◌, length, slice_get, Option, None, Some, option_map}
use Rattle.std.specs.List.{list_any}
use Rattle.std.specs.Option.{option_or}
use Rattle.step_model.specs.declared.fault.Fault.{Fault}
use Rattle.step_model.specs.declared.fault.Cause.{Cause}
use Rattle.step_model.specs.declared.fault.Cause.TheVariants as cause
use Rattle.step_model.specs.Listing.{Listing}
pub use Rattle.step_model.specs.WellFormed.{most_detectors, most_observables}
use Rattle.step_model.specs.Faults.{without_line}
use Rattle.stim_parser.specs.declared.target.Target.{Target}
use Rattle.stim_parser.specs.declared.target.Target.TheVariants.{Back}
use Rattle.stim_lexer.specs.Texts.{refused}
use Rattle.stim_parser.specs.Trees.{Tree}
use Rattle.stim_parser.specs.Verdicts.{Instruction}
use Rattle.stim_lexer.specs.Reached.{instructions_of}
use Rattle.circuit_walk.specs.Meaning.{listing_of, made_in}
use Rattle.circuit_walk.specs.Totals.{observables_to, step_total}

-- ---- the limits, beside those of detectors and of observables

-- the most records
abbrev pub most_records : ℕ
most_records = 8_000_000

-- the most collapses
abbrev pub most_collapses : ℕ
most_collapses = 8_000_000

-- the most steps
abbrev pub most_steps : ℕ
most_steps = 64_000_000

-- ---- lines

-- a record target that reaches back further than this many records
abbrev pub is_before_start : ℕ → Target → Bool
is_before_start r (Back k) = nat_lt r k
is_before_start r target = false

-- whether some of these targets does
abbrev pub reaches_far : ℕ → List Target → Bool
reaches_far r targets = list_any (is_before_start r) targets

-- the first line that reaches back before the first record
abbrev pub first_far_line : Tree → Option ℕ
first_far_line tree = slice_get (made_in tree (λ b i. if reaches_far b.records i.targets then i.line ∷ [] else [])) 0

-- the first line that names an observable beyond the limit
unfoldable pub first_observable_beyond : List Instruction → Option ℕ
first_observable_beyond [] = None
first_observable_beyond (i ∷ instructions) =
    if nat_lt most_observables (observables_to i.operation i.arguments) then Some i.line else first_observable_beyond instructions

-- ---- the whole circuit

-- whether a program has more records or collapses than it may
abbrev pub has_many_records : Listing → Bool
has_many_records program = nat_lt most_records program.records || nat_lt most_collapses program.collapses

-- whether it has more detectors
abbrev pub has_many_detectors : Listing → Bool
has_many_detectors program = nat_lt most_detectors (length program.detectors)

-- whether a tree takes more steps
abbrev pub has_many_steps : Tree → Bool
has_many_steps tree = nat_lt most_steps (step_total tree)

-- a refusal of the whole circuit for this cause, where `holds`
abbrev pub of_circuit : Bool → Cause → Option Fault
of_circuit holds c = if holds then Some (without_line c) else None

-- the refusal of a tree, where it has one
abbrev pub circuit_refusal : Tree → Option Fault
circuit_refusal tree =
    option_or (option_map (refused cause.RecordBeforeStart) (first_far_line tree))
    (option_or (of_circuit (has_many_records (listing_of tree)) cause.Records)
    (option_or (option_map (refused cause.Detectors) (first_observable_beyond (instructions_of tree)))
    (option_or (of_circuit (has_many_detectors (listing_of tree)) cause.Detectors) (of_circuit (has_many_steps tree) cause.Steps))))
