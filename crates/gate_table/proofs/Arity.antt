-- A gate acts on one qubit or on two.
use Rattle.std.proofs.Common.{◌≡◌, refl, ◌⊎◌, inl, inr}
use Rattle.gate_table.specs.declared.gate.Gate.{Gate}
use Rattle.gate_table.specs.Table.{Row, one_qubit, controlled, two_qubit, row_of}
use Rattle.gate_table.specs.Images.{row_arity, arity_of}

row_arity_cases : (row : Row) → (row_arity row ≡ 1) ⊎ (row_arity row ≡ 2)
row_arity_cases (one_qubit x z g) = inl refl
row_arity_cases (controlled a b) = inr refl
row_arity_cases (two_qubit xi zi ix iz g) = inr refl

pub arity_cases : (g : Gate) → (arity_of g ≡ 1) ⊎ (arity_of g ≡ 2)
arity_cases g = row_arity_cases (row_of g)

pub two_unless_one : (g : Gate) → (arity_of g ≡ 1 → ⊥) → arity_of g ≡ 2
two_unless_one g not_one = elim (arity_cases g) [ inl one ↦ absurd (not_one one) | inr two ↦ two ]
