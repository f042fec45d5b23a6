-- What kind of item stands at a place.
use Rattle.std.specs.Prelude.{◌≡◌, ℕ, Bool, false, true, Option, Some}
use Rattle.stim_lexer.specs.Instructions.{Instruction}
use Rattle.stim_lexer.specs.Trees.{Item, InstructionLine, BlockStart, BlockEnd}
use Rattle.cursor.specs.declared.marks.Mark.{Mark}
use Rattle.cursor.specs.declared.marks.Mark.TheVariants.{Does, Start, End}

abbrev pub IsMark : {O T : Type 0} → Option (Item (Instruction O T)) → Mark O → Type 0
IsMark {O} {T} o (Does operation) = (x : Instruction O T) × (o ≡ Some (InstructionLine x)) × (x.operation ≡ operation)
IsMark o (Start iterations) = (line : ℕ) × (o ≡ Some (BlockStart line iterations))
IsMark o End = o ≡ Some BlockEnd

-- a chosen instruction
abbrev pub IsChosen : {I : Type 0} → (I → Bool) → Option (Item I) → Type 0
IsChosen {I} w o = (x : I) × (o ≡ Some (InstructionLine x)) × (w x ≡ true)

-- an instruction that isn't chosen
abbrev pub IsOther : {I : Type 0} → (I → Bool) → Option (Item I) → Type 0
IsOther {I} w o = (x : I) × (o ≡ Some (InstructionLine x)) × (w x ≡ false)
