-- Names and texts that are borrowed, as tables and arguments have them. (This project's own.)
use Rattle.std.specs.Prelude.{ℕ, Bool, List, map, Option, find, option_map}
use Rattle.std.specs.Borrow.{Bor}
use Rattle.std.specs.Str.{str_eq_ignore_ascii_case}
use Rattle.std.specs.List.{list_any}

-- what a text names in a list whose names are borrowed
unfoldable pub named_in_rows : {K : Type 0} → List (Bor (List ℕ) × K) → List ℕ → Option K
named_in_rows rows text = option_map (λ row. row.1) (find (λ row. str_eq_ignore_ascii_case row.0.now text) rows)

-- whether a text is among borrowed names
unfoldable pub is_among_rows : List (Bor (List ℕ)) → List ℕ → Bool
is_among_rows rows name = list_any (λ row. str_eq_ignore_ascii_case row.now name) rows

-- borrowed texts
abbrev pub texts_of : List (Bor (List ℕ)) → List (List ℕ)
texts_of lent = map (λ text. text.now) lent
