-- Truth values as a line of text: the character 1 or 0 for each, and then a line feed. (Stim's result format 01.)
use Rattle.std.specs.Prelude.{ℕ, Bool, if◌then◌else◌, List, [], ◌∷◌, ◌++◌, map}

-- the character 1 or 0
abbrev pub digit_of : Bool → ℕ
digit_of value = if value then 49 else 48

-- a character for each truth value, and then a line feed
abbrev pub line_of : List Bool → List ℕ
line_of values = map digit_of values ++ 10 ∷ []
