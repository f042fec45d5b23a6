-- A quick test of many bytes: most lines have no special byte, and so no bad byte, no brace and no comment. (This project's
-- own.)
use Rattle.std.specs.Prelude.{◌≡◌, ℕ, ◌≤◌, Bool, false, not, ◌||◌, ◌&&◌, List, length, take}
use Rattle.std.specs.Int.{is_in_range}
use Rattle.std.specs.List.{list_any}
use Rattle.stim_lexer.specs.Bytes.{is_hash, is_line_feed}

-- a byte outside 32 to 122, which are the space to `z`; or `#`
abbrev pub is_special : ℕ → Bool
is_special b = not (is_in_range 32 122 b) || is_hash b

-- a special byte that doesn't end a line
abbrev pub is_rare : ℕ → Bool
is_rare b = is_special b && not (is_line_feed b)

-- a text has so many bytes in front, and none of them is special, but that lines may end there
pub record IsPlain (front : ℕ) (text : List ℕ) : Type 0 where
  pub within : front ≤ length text
  pub none : list_any is_rare (take front text) ≡ false
