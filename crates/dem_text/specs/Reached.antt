-- How many lines the blocks of an error model unroll to: each turn counts 1, and so does each instruction in it.
-- Instructions in no block and `repeat` lines don't count. Blocks may unroll to at most 4,000,000 lines. (Stim's
-- detector error model format, github.com/quantumlib/Stim, doc/file_format_dem_detector_error_model.md, "repeat"; what
-- is counted is this project's choice.)
use Rattle.std.specs.Prelude.{ℕ, ◌+◌, ◌*◌, nat_lt, Bool}
use Rattle.stim_lexer.specs.Reached.{total}
use Rattle.stim_lexer.specs.Trees.{Nothing, Then, Block}
use Rattle.dem_text.specs.Trees.{Tree}

-- the lines of all blocks together
unfoldable pub block_lines : Tree → ℕ
block_lines Nothing = 0
block_lines (Then instruction rest) = block_lines rest
block_lines (Block line turns body rest) = turns * (1 + total 1 (λ i. 1) body) + block_lines rest

-- how many lines blocks may unroll to
abbrev pub most_lines : ℕ
most_lines = 4_000_000

-- whether the blocks of a tree unroll to more
abbrev pub has_many_lines : Tree → Bool
has_many_lines tree = nat_lt most_lines (block_lines tree)
