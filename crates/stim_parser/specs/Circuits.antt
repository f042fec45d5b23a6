-- What holds of a circuit's tree: each instruction has the arguments and targets that its operation takes, each block
-- has at least one turn and no more than the limit, and blocks are nested no deeper than the limit. (Stim's circuit format;
-- the limits are this project's.)
use Rattle.std.specs.Prelude.{◌≡◌, nat_le, Bool, false, true, not, []}
use Rattle.std.specs.List.{list_all}
use Rattle.step_model.specs.Listing.{is_I}
use Rattle.stim_lexer.specs.Fitting as fitting
use Rattle.stim_parser.specs.declared.table.Keyword.TheVariants.{Does}
use Rattle.stim_parser.specs.declared.operation.Operation.{Operation}
use Rattle.stim_parser.specs.declared.operation.Operation.TheVariants.{Measurement, QubitReset, MeasurementReset, PauliError}
use Rattle.stim_parser.specs.declared.target.Target.{Target}
use Rattle.stim_parser.specs.declared.target.Target.TheVariants.{Back, Pauli}
use Rattle.stim_parser.specs.Instructions.{target_form}
use Rattle.stim_parser.specs.Limits.{has_wrong_count, has_same_qubit}
use Rattle.stim_parser.specs.Taken.{IsAsTaken}
use Rattle.stim_parser.specs.Trees.{Tree}
use Rattle.stim_parser.specs.Verdicts.{Instruction, circuit_table, takes_none}

-- an operation and a target as a text can write them: no letter is I, and a record is at least one back
abbrev pub operation_is_written : Operation → Bool
operation_is_written (Measurement l) = not (is_I l)
operation_is_written (QubitReset l) = not (is_I l)
operation_is_written (MeasurementReset l) = not (is_I l)
operation_is_written (PauliError l) = not (is_I l)
operation_is_written operation = true

abbrev pub target_is_written : Target → Bool
target_is_written (Back k) = nat_le 1 k
target_is_written (Pauli inverted l q) = not (is_I l)
target_is_written target = true

-- an instruction with arguments and targets as it takes them
pub record Fits (i : Instruction) : Type 0 where
  pub taken : IsAsTaken circuit_table i
  pub open taken use *
  pub no_targets : takes_none (target_form (Does i.operation)) ≡ true → i.targets ≡ []
  pub count : has_wrong_count (target_form (Does i.operation)) i.targets ≡ false
  pub different : has_same_qubit (target_form (Does i.operation)) i.targets ≡ false
  pub operation_written : operation_is_written i.operation ≡ true
  pub targets_written : list_all target_is_written i.targets ≡ true

-- in a tree each instruction fits, and each block has a turn
abbrev pub AllFit : Tree → Type 0
AllFit tree = fitting.AllFit Fits tree

-- a tree that is accepted: its instructions fit, its blocks have turns and not too many, and it is not too deep
abbrev pub IsCircuit : Tree → Type 0
IsCircuit tree = fitting.IsBuilt Fits tree
