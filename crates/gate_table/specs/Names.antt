-- The names of gates, the usual name of each first and then the aliases. Case does not matter.
-- (Stim's gate reference, github.com/quantumlib/Stim, doc/gates.md: the titles, and "Alternate name".)
use Rattle.std.specs.Prelude.{ℕ, List, [], ◌∷◌, Option, codes, find, option_map}
use Rattle.std.specs.Str.{str_eq_ignore_ascii_case}
use Rattle.gate_table.specs.declared.gate.Gate.{Gate}
use Rattle.gate_table.specs.declared.gate.Gate.TheVariants as gate

-- each name with the gate that it names
abbrev pub gate_names : List (List ℕ × Gate)
gate_names =
    (codes "I", gate.I)
    ∷ (codes "X", gate.X)
    ∷ (codes "Y", gate.Y)
    ∷ (codes "Z", gate.Z)
    ∷ (codes "H", gate.H)
    ∷ (codes "H_XY", gate.HXY)
    ∷ (codes "H_YZ", gate.HYZ)
    ∷ (codes "S", gate.S)
    ∷ (codes "S_DAG", gate.SDag)
    ∷ (codes "SQRT_X", gate.SqrtX)
    ∷ (codes "SQRT_X_DAG", gate.SqrtXDag)
    ∷ (codes "SQRT_Y", gate.SqrtY)
    ∷ (codes "SQRT_Y_DAG", gate.SqrtYDag)
    ∷ (codes "C_XYZ", gate.CXYZ)
    ∷ (codes "C_ZYX", gate.CZYX)
    ∷ (codes "CX", gate.CX)
    ∷ (codes "CY", gate.CY)
    ∷ (codes "CZ", gate.CZ)
    ∷ (codes "XCX", gate.XCX)
    ∷ (codes "XCY", gate.XCY)
    ∷ (codes "XCZ", gate.XCZ)
    ∷ (codes "YCX", gate.YCX)
    ∷ (codes "YCY", gate.YCY)
    ∷ (codes "YCZ", gate.YCZ)
    ∷ (codes "SWAP", gate.Swap)
    ∷ (codes "ISWAP", gate.ISwap)
    ∷ (codes "ISWAP_DAG", gate.ISwapDag)
    ∷ (codes "SQRT_XX", gate.SqrtXX)
    ∷ (codes "SQRT_XX_DAG", gate.SqrtXXDag)
    ∷ (codes "SQRT_YY", gate.SqrtYY)
    ∷ (codes "SQRT_YY_DAG", gate.SqrtYYDag)
    ∷ (codes "SQRT_ZZ", gate.SqrtZZ)
    ∷ (codes "SQRT_ZZ_DAG", gate.SqrtZZDag)
    ∷ (codes "H_XZ", gate.H)
    ∷ (codes "SQRT_Z", gate.S)
    ∷ (codes "SQRT_Z_DAG", gate.SDag)
    ∷ (codes "CNOT", gate.CX)
    ∷ (codes "ZCX", gate.CX)
    ∷ (codes "ZCY", gate.CY)
    ∷ (codes "ZCZ", gate.CZ)
    ∷ []

-- what a text names in a table of names: that of the first name that equals the text, in any case
abbrev pub named_in : {K : Type 0} → List (List ℕ × K) → List ℕ → Option K
named_in entries text = option_map (λ entry. entry.1) (find (λ entry. str_eq_ignore_ascii_case entry.0 text) entries)

-- the gate that a text names
abbrev pub gate_named : List ℕ → Option Gate
gate_named text = named_in gate_names text
