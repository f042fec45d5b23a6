-- The end of the line of a detector, as it is kept: at the end of a fixed number of bytes. (This project's own.)
use Rattle.std.specs.Prelude.{◌≡◌, ◌≤◌, ◌-◌, ◌++◌, ℕ, List, codes, decimal, drop}

-- a space, the detector and a line feed
abbrev pub end_text : ℕ → List ℕ
end_text detector = codes " D" ++ decimal detector ++ codes "\n"

-- these bytes end with the end of the line of a detector
pub record HasEnd (detector len : ℕ) (bytes : List ℕ) : Type 0 where
  pub within : len ≤ 16
  pub text : drop (16 - len) bytes ≡ end_text detector
