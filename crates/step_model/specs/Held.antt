-- The value, in contracts, of a buffer in front of a sink. (This project's own.)
use Rattle.std.specs.Prelude.{ℕ, List, Bool}

-- the bytes that are held back, and whether the sink has failed
pub record Held : Type 0 where
  pub bytes : List ℕ
  pub failed : Bool
