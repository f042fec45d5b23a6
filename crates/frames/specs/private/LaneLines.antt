-- The lines of shots that stand side by side in the lanes of words.
-- (This project's own.)
use Rattle.std.specs.Prelude.{ℕ, List}
use Rattle.std.specs.List.{flat_map, range_with_len}
use Rattle.bit_rows.specs.Lanes.{lane}
use Rattle.frames.specs.Lines.{line_of}

-- the line of one shot, and the lines of the first `count` shots
abbrev pub lane_line : List ℕ → ℕ → List ℕ
lane_line words shot = line_of (lane shot words)

abbrev pub lane_lines : List ℕ → ℕ → List ℕ
lane_lines words count = flat_map (lane_line words) (range_with_len 0 count)
