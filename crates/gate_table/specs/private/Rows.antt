-- Names that are borrowed, as the code's table has them. (This project's own.)
use Rattle.std.specs.Prelude.{ℕ, List, Option, find, option_map}
use Rattle.std.specs.Str.{str_eq_ignore_ascii_case}
use Rattle.std.specs.Borrow.{Bor}

-- what a text names in a table whose names are borrowed
unfoldable pub named_in_rows : {K : Type 0} → List (Bor (List ℕ) × K) → List ℕ → Option K
named_in_rows rows text = option_map (λ row. row.1) (find (λ row. str_eq_ignore_ascii_case row.0.now text) rows)
