-- A search through a table of names, whose entries borrow their texts.
use Rattle.std.proofs.Common.{◌≡◌, refl, ℕ, true, false, cond, List, [], ◌∷◌, Bor, find, map}
use Rattle.std.specs.Prelude.{option_map, Some}
use Rattle.std.specs.Str.{str_eq_ignore_ascii_case}
use Rattle.gate_table.specs.declared.gate.Gate.{Gate}
use Rattle.gate_table.specs.Names.{named_in}
use Rattle.gate_table.specs.private.Rows.{named_in_rows}

-- the name and the gate of a row
abbrev pub entry_of : Bor (List ℕ) × Gate → List ℕ × Gate
entry_of row = (row.0.now, row.1)

pub named_in_rows-named_in : (rows : List (Bor (List ℕ) × Gate)) (text : List ℕ) → named_in_rows rows text ≡ named_in (map entry_of rows) text
unfolding named_in_rows
named_in_rows-named_in [] text = refl
named_in_rows-named_in (row ∷ rows) text =
    elim (str_eq_ignore_ascii_case row.0.now text)
    as (λ found. option_map (λ r. r.1) (cond found (Some row) (find (λ r. str_eq_ignore_ascii_case r.0.now text) rows))
    ≡ option_map (λ e. e.1) (cond found (Some (entry_of row)) (find (λ e. str_eq_ignore_ascii_case e.0 text) (map entry_of rows))))
    [ true ↦ refl | false ↦ named_in_rows-named_in rows text ]
