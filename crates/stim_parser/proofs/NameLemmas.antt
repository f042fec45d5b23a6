-- A search through a table of names, whose entries borrow their texts.
use Rattle.std.proofs.Common.{◌≡◌, refl, ap, ℕ, true, false, cond, List, [], ◌∷◌, Bor, find, map, ◌||◌}
use Rattle.std.specs.Prelude.{option_map, Some}
use Rattle.std.specs.List.{list_any}
use Rattle.std.specs.Str.{str_eq_ignore_ascii_case}
use Rattle.gate_table.specs.Names.{named_in}
use Rattle.stim_parser.specs.Rows.{named_in_rows, is_among_rows}

-- a row and its name
abbrev pub entry_of : {K : Type 0} → Bor (List ℕ) × K → List ℕ × K
entry_of row = (row.0.now, row.1)

pub named_in_rows-named_in : {K : Type 0} (rows : List (Bor (List ℕ) × K)) (text : List ℕ) → named_in_rows rows text ≡ named_in (map entry_of rows) text
unfolding named_in_rows
named_in_rows-named_in [] text = refl
named_in_rows-named_in (row ∷ rows) text =
    elim (str_eq_ignore_ascii_case row.0.now text)
    as (λ found. option_map (λ r. r.1) (cond found (Some row) (find (λ r. str_eq_ignore_ascii_case r.0.now text) rows))
    ≡ option_map (λ e. e.1) (cond found (Some (entry_of row)) (find (λ e. str_eq_ignore_ascii_case e.0 text) (map entry_of rows))))
    [ true ↦ refl | false ↦ named_in_rows-named_in rows text ]

pub is_among_rows-any : (rows : List (Bor (List ℕ))) (name : List ℕ) → is_among_rows rows name ≡ list_any (λ row. str_eq_ignore_ascii_case row name) (map (λ row. row.now) rows)
unfolding is_among_rows
is_among_rows-any [] name = refl
is_among_rows-any (row ∷ rows) name = ap (λ b. str_eq_ignore_ascii_case row.now name || b) (is_among_rows-any rows name)
