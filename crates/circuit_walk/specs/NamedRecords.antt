-- Records that are lent by the targets that name them. (Stim's circuit format, "Target Types"; how they are lent is this
-- project's own.)
use Rattle.std.specs.Prelude.{ℕ, List}
use Rattle.circuit_walk.specs.declared.named_records.NamedRecords.{NamedRecords}
use Rattle.circuit_walk.specs.TargetsMade.{records_named}

-- the records
abbrev pub records_in : NamedRecords → List ℕ
records_in named = records_named named.records named.targets.now
