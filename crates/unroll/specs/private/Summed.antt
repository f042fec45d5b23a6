-- A circuit's totals as they are summed up in one pass over its text. A sum that doesn't fit 64 bits stays at the
-- greatest number that does, which is above every limit, and beyond every record that a target can name. (Stim's
-- circuit format, github.com/quantumlib/Stim, doc/file_format_stim_circuit.md; the limits are this project's.)
use Rattle.std.specs.Prelude.{◌≡◌, ℕ, ◌+◌, ◌-◌, ◌*◌, ◌^◌, ◌≤◌, min, max, nat_lt, Bool, if◌then◌else◌, Option, None, Some}
use Rattle.std.specs.Option.{option_or}
use Rattle.stim_lexer.specs.Reached.{instructions_of}
use Rattle.stim_parser.specs.Trees.{Tree}
use Rattle.stim_parser.specs.Verdicts.{Instruction}
use Rattle.unroll.specs.declared.totals.Totals.{Totals}
use Rattle.stim_lexer.specs.Passes.{Pass}
use Rattle.circuit_walk.specs.Refusals.{first_observable_beyond, most_observables, reaches_far}
use Rattle.unroll.specs.private.Counted.{first_far_from}
use Rattle.circuit_walk.specs.Totals.{observable_total, observables_to, qubit_total, step_total}
use Rattle.unroll.specs.private.MadeTotals.{fault_count, fault_total, made_count, made_total, collapse_count, collapse_total, detector_count, detector_total, qubits_named, record_count, record_total, step_count}

abbrev pub greatest : ℕ
greatest = 2 ^ 64 - 1

-- a sum, or the greatest number of 64 bits where it is greater
abbrev pub capped_sum : ℕ → ℕ → ℕ
capped_sum a b = min (a + b) greatest

-- the sum after all turns of a block, from the sums before it and after its first turn
abbrev pub repeated_sum : ℕ → ℕ → ℕ → ℕ
repeated_sum turns before after = capped_sum after (min ((turns - 1) * (after - before)) greatest)

-- the line that was found before, or else this line where something holds of it
abbrev pub first_line : Option ℕ → Bool → ℕ → Option ℕ
first_line found holds line = option_or found (if holds then Some line else None)

abbrev pub nothing_summed : Totals
nothing_summed =
    record {
      records = 0;
      collapses = 0;
      detectors = 0;
      faults = 0;
      steps = 0;
      made = 0;
      qubits = 0;
      observables = 0;
      far_line = None;
      beyond_line = None;
    }

-- what only some instructions add to fits 64 bits
pub record SumsFit (t : Totals) : Type 0 where
  pub records : t.records ≤ greatest
  pub collapses : t.collapses ≤ greatest
  pub detectors : t.detectors ≤ greatest
  pub faults : t.faults ≤ greatest

-- the totals after one more instruction
abbrev pub totals_after : Instruction → Totals → Totals
totals_after i t =
    record {
      records = capped_sum t.records (record_count i);
      collapses = capped_sum t.collapses (collapse_count i);
      detectors = capped_sum t.detectors (detector_count i);
      faults = capped_sum t.faults (fault_count i);
      steps = capped_sum t.steps (step_count i);
      made = capped_sum t.made (made_count i);
      qubits = max t.qubits (qubits_named i.targets);
      observables = max t.observables (observables_to i.operation i.arguments);
      far_line = first_line t.far_line (reaches_far t.records i.targets) i.line;
      beyond_line = first_line t.beyond_line (nat_lt most_observables (observables_to i.operation i.arguments)) i.line;
    }

-- each turn is a step of its own; what the first turn names, and the first line that it finds, stay as they are
abbrev pub totals_repeated : ℕ → Totals → Totals → Totals
totals_repeated turns before after =
    record {
      records = repeated_sum turns before.records after.records;
      collapses = repeated_sum turns before.collapses after.collapses;
      detectors = repeated_sum turns before.detectors after.detectors;
      faults = repeated_sum turns before.faults after.faults;
      steps = repeated_sum turns before.steps (capped_sum after.steps 1);
      made = repeated_sum turns before.made after.made;
      qubits = after.qubits;
      observables = after.observables;
      far_line = after.far_line;
      beyond_line = after.beyond_line;
    }

abbrev pub summing : Pass Instruction Totals
summing = record { step = totals_after; close = totals_repeated }

-- the totals of a tree, as far as they fit
pub record AreTotals (tree : Tree) (t : Totals) : Type 0 where
  pub records : t.records ≡ min (record_total tree) greatest
  pub collapses : t.collapses ≡ min (collapse_total tree) greatest
  pub detectors : t.detectors ≡ min (detector_total tree) greatest
  pub faults : t.faults ≡ min (fault_total tree) greatest
  pub steps : t.steps ≡ min (step_total tree) greatest
  pub made : t.made ≡ min (made_total tree) greatest
  pub qubits : t.qubits ≡ qubit_total tree
  pub observables : t.observables ≡ observable_total tree
  pub far_line : t.far_line ≡ first_far_from 0 tree
  pub beyond_line : t.beyond_line ≡ first_observable_beyond (instructions_of tree)
