-- A set of targets that is held as a list or as a row of bits. (This project's own.)
use Rattle.std.specs.Prelude.{Bool, List}
use Rattle.trackers.specs.declared.held.Held.{Held}
use Rattle.trackers.specs.declared.held.Held.TheVariants as held

-- for each target whether it is in the set
abbrev pub bits_of : {A : Type 0} → Held A → List Bool
bits_of (held.List list) = list
bits_of (held.Row row) = row
