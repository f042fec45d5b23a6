-- The beginning of an error line, as it is kept: at the end of a fixed number of bytes. (This project's own.)
use Rattle.std.specs.Prelude.{◌≡◌, ◌≤◌, ◌-◌, ◌++◌, ℕ, List, codes, drop, length}

-- where the text of a probability is short, these bytes end with the beginning of a line that has it
abbrev pub HasHead : List ℕ → List ℕ → Type 0
HasHead text head = length text ≤ 32 → drop (33 - length text) head ≡ codes "error(" ++ text ++ codes ")"
