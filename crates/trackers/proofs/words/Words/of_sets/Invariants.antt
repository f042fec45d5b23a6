use Rattle.std.proofs.Common.{◌≡◌}
use Rattle.std.specs.Prelude.{replicate}
use Rattle.pauli_word.specs.Words.{no_letters}
use Rattle.trackers.proofs.words.Words.of_sets.Given as goal

abbrev pub invariant-loop-made : goal.invariant-loop-made
invariant-loop-made g l = l.columns.items ≡ replicate l._made (no_letters l.targets)
