-- The table of gates. A gate U is given by the images of X and Z: the image of P is U P U-dagger, a letter or a pair of
-- letters with a sign. A controlled gate is given by its two letters alone.
-- (Stim's gate reference, github.com/quantumlib/Stim, doc/gates.md: "Stabilizer Generators" of each gate.)
use Rattle.std.specs.Prelude.{Bool, true, false}
use Rattle.pauli_word.specs.declared.letter.Letter.{Letter}
use Rattle.pauli_word.specs.declared.letter.Letter.TheVariants.{I, X, Y, Z}
use Rattle.gate_table.specs.declared.gate.Gate.{Gate}
use Rattle.gate_table.specs.declared.gate.Gate.TheVariants as gate

-- a letter with its sign, which is true for minus
abbrev pub SignedLetter : Type 0
SignedLetter = Letter × Bool

-- a pair of letters with their sign
abbrev pub SignedPair : Type 0
SignedPair = Letter × Letter × Bool

-- the two signs
abbrev pub plus : Bool
plus = false

-- the sign minus
abbrev pub minus : Bool
minus = true

-- what the table says of a gate: of a one-qubit gate the images of X and of Z, and its inverse; of a controlled
-- gate its letters on the first qubit and on the second; of another two-qubit gate the images of X I, Z I, I X
-- and I Z, and its inverse
pub data Row : Type 0 where
  one_qubit : SignedLetter → SignedLetter → Gate → Row
  controlled : Letter → Letter → Row
  two_qubit : SignedPair → SignedPair → SignedPair → SignedPair → Gate → Row

-- the row of each gate
abbrev pub row_of : Gate → Row
-- the images of X and Z, and the inverse
row_of gate.I = one_qubit (X, plus) (Z, plus) gate.I
row_of gate.X = one_qubit (X, plus) (Z, minus) gate.X
row_of gate.Y = one_qubit (X, minus) (Z, minus) gate.Y
row_of gate.Z = one_qubit (X, minus) (Z, plus) gate.Z
row_of gate.H = one_qubit (Z, plus) (X, plus) gate.H
row_of gate.HXY = one_qubit (Y, plus) (Z, minus) gate.HXY
row_of gate.HYZ = one_qubit (X, minus) (Y, plus) gate.HYZ
row_of gate.S = one_qubit (Y, plus) (Z, plus) gate.SDag
row_of gate.SDag = one_qubit (Y, minus) (Z, plus) gate.S
row_of gate.SqrtX = one_qubit (X, plus) (Y, minus) gate.SqrtXDag
row_of gate.SqrtXDag = one_qubit (X, plus) (Y, plus) gate.SqrtX
row_of gate.SqrtY = one_qubit (Z, minus) (X, plus) gate.SqrtYDag
row_of gate.SqrtYDag = one_qubit (Z, plus) (X, minus) gate.SqrtY
row_of gate.CXYZ = one_qubit (Y, plus) (X, plus) gate.CZYX
row_of gate.CZYX = one_qubit (Z, plus) (Y, plus) gate.CXYZ
-- the letter on the first qubit, and on the second
row_of gate.CX = controlled Z X
row_of gate.CY = controlled Z Y
row_of gate.CZ = controlled Z Z
row_of gate.XCX = controlled X X
row_of gate.XCY = controlled X Y
row_of gate.XCZ = controlled X Z
row_of gate.YCX = controlled Y X
row_of gate.YCY = controlled Y Y
row_of gate.YCZ = controlled Y Z
-- the images of X I, Z I, I X and I Z, and the inverse
row_of gate.Swap = two_qubit (I, X, plus) (I, Z, plus) (X, I, plus) (Z, I, plus) gate.Swap
row_of gate.ISwap = two_qubit (Z, Y, plus) (I, Z, plus) (Y, Z, plus) (Z, I, plus) gate.ISwapDag
row_of gate.ISwapDag = two_qubit (Z, Y, minus) (I, Z, plus) (Y, Z, minus) (Z, I, plus) gate.ISwap
row_of gate.SqrtXX = two_qubit (X, I, plus) (Y, X, minus) (I, X, plus) (X, Y, minus) gate.SqrtXXDag
row_of gate.SqrtXXDag = two_qubit (X, I, plus) (Y, X, plus) (I, X, plus) (X, Y, plus) gate.SqrtXX
row_of gate.SqrtYY = two_qubit (Z, Y, minus) (X, Y, plus) (Y, Z, minus) (Y, X, plus) gate.SqrtYYDag
row_of gate.SqrtYYDag = two_qubit (Z, Y, plus) (X, Y, minus) (Y, Z, plus) (Y, X, minus) gate.SqrtYY
row_of gate.SqrtZZ = two_qubit (Y, Z, plus) (Z, I, plus) (Z, Y, plus) (I, Z, plus) gate.SqrtZZDag
row_of gate.SqrtZZDag = two_qubit (Y, Z, minus) (Z, I, plus) (Z, Y, minus) (I, Z, plus) gate.SqrtZZ
