-- The coordinates of detectors as a pass gathers them, instruction by instruction, with the offset that it keeps: one number
-- for each of 16 axes, 0 where no shift has named the axis. (Stim's gate reference, github.com/quantumlib/Stim,
-- doc/gates.md, "DETECTOR" and "SHIFT_COORDS"; how the offset is kept is this project's own.)
use Rattle.std.specs.Prelude.{◌≡◌, ◌≤◌, ◌^◌, ℤ, pos, ◌+ℤ◌, nat_abs, Bool, true, false, List, [], ◌∷◌, ◌++◌, All, replicate}
use Rattle.cursor.specs.Chosen.{chosen_in}
use Rattle.stim_parser.specs.declared.operation.Operation.{Operation}
use Rattle.stim_parser.specs.declared.operation.Operation.TheVariants.{DetectorDeclaration, CoordinateShift}
use Rattle.stim_parser.specs.Trees.{Tree}
use Rattle.stim_parser.specs.Verdicts.{Instruction}
use Rattle.circuit_walk.specs.TargetsMade.{offset_after, operation_coordinates}

-- whether instructions of an operation give coordinates or shift them
abbrev pub places : Operation → Bool
places DetectorDeclaration = true
places CoordinateShift = true
places operation = false

abbrev pub is_placing : Instruction → Bool
is_placing i = places i.operation

-- the offset behind instructions, from the one before them
abbrev pub offset_behind : List ℤ → List Instruction → List ℤ
offset_behind offset [] = offset
offset_behind offset (i ∷ is) = offset_behind (offset_after offset i.operation i.arguments) is

-- the coordinates of their detectors
abbrev pub coordinates_from : List ℤ → List Instruction → List (List ℤ)
coordinates_from offset [] = []
coordinates_from offset (i ∷ is) =
    operation_coordinates offset i.operation i.arguments ++ coordinates_from (offset_after offset i.operation i.arguments) is

-- numbers with more added, place by place; there are as many as before
abbrev pub added : List ℤ → List ℤ → List ℤ
added [] more = []
added numbers [] = numbers
added (z ∷ numbers) (m ∷ more) = (z +ℤ m) ∷ added numbers more

-- the offset behind the first instructions of a circuit, on each axis
abbrev pub offset_at : List Instruction → List ℤ
offset_at before = added (replicate 16 (pos 0)) (offset_behind [] before)

-- numbers of which two can be added
abbrev pub AreRoomy : List ℤ → Type 0
AreRoomy zs = All (λ z. nat_abs z ≤ 2 ^ 61) zs

-- a place right before a chosen instruction of a circuit, with the offset there
pub record IsPlaced (circuit : Tree) (before : List Instruction) (i : Instruction) (offset : List ℤ) : Type 0 where
  pub rest : List Instruction
  pub whole : before ++ i ∷ rest ≡ chosen_in is_placing circuit
  pub chosen : is_placing i ≡ true
  pub offset_is : offset ≡ offset_at before
