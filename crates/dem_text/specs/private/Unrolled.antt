-- The lines that the blocks of an error model unroll to, as they are counted in one pass over its text. One count is of
-- all lines, as if they stood in one block, and one of the instructions that stand in no block. A count that doesn't
-- fit 128 bits stays at the greatest number that does, which is above every limit. (What is counted is this project's
-- choice.)
use Rattle.std.specs.Prelude.{ℕ, ◌+◌, ◌-◌, ◌*◌, ◌^◌, min}
use Rattle.stim_lexer.specs.Reached.{total}
use Rattle.dem_text.specs.Reached.{most_lines}
use Rattle.dem_text.specs.declared.counting.Unrolled.{Unrolled}
use Rattle.stim_lexer.specs.Passes.{Pass}
use Rattle.dem_text.specs.Trees.{Tree}
use Rattle.dem_text.specs.Verdicts.{Instruction}

abbrev pub greatest : ℕ
greatest = 2 ^ 128 - 1

-- the lines of what stands in a block
abbrev pub lines_inside : Tree → ℕ
lines_inside tree = total 1 (λ i. 1) tree

abbrev pub capped_sum : ℕ → ℕ → ℕ
capped_sum a b = min (a + b) greatest

-- the count after all turns of a block, from the counts before it and after its first turn
abbrev pub repeated_sum : ℕ → ℕ → ℕ → ℕ
repeated_sum turns before after = capped_sum after (min ((turns - 1) * (after - before)) greatest)

abbrev pub nothing_counted : Unrolled
nothing_counted = record { inside = 0; outside = 0 }

abbrev pub counts_after : Instruction → Unrolled → Unrolled
counts_after i c = record { inside = capped_sum c.inside 1; outside = capped_sum c.outside 1 }

-- each turn counts as one more line
abbrev pub counts_repeated : ℕ → Unrolled → Unrolled → Unrolled
counts_repeated turns before after =
    record { inside = repeated_sum turns before.inside (capped_sum after.inside 1); outside = before.outside }

abbrev pub counting : Pass Instruction Unrolled
counting = record { step = counts_after; close = counts_repeated }

-- a number up to one more than there may be lines
abbrev pub few_of : ℕ → ℕ
few_of n = min n (most_lines + 1)

-- the lines of all blocks, by these counts
abbrev pub few_counted : Unrolled → ℕ
few_counted c = few_of (c.inside - c.outside)
