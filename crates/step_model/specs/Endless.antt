-- A source that is given up, since it has handed out so many bytes and hasn't ended. (This project's own.)
use Rattle.std.specs.Prelude.{ℕ, ◌≤◌, List, length, Option}
use Rattle.step_model.specs.Ends.{HandsOut}

-- the source handed out so many bytes or more
abbrev pub HandsOutMany : ℕ → Option (List ℕ) → Option (List ℕ) → Type 0
HandsOutMany least old new = (bytes : List ℕ) × HandsOut old new bytes × (least ≤ length bytes)
