-- The item is the instruction.
use Rattle.std.proofs.Common.{◌≡◌, Some, ◌∙◌}
use Rattle.std.proofs.lemmas.Option.{slice_get_within}
use Rattle.stim_lexer.specs.Trees.{InstructionLine}
use Rattle.stim_parser.specs.Verdicts.{Instruction}
use Rattle.circuit_walk.proofs.program.Text.instruction_at.Goals as goal

same : (x y : Instruction) → Some (InstructionLine x) ≡ Some (InstructionLine y) → x ≡ y
same x y e = cc

pub get-requires : goal.get-requires
get-requires g c = slice_get_within c.args.self.now.items.now.items c.args.i _ c.requires.1

pub returns-clause-is : goal.returns-clause-is
returns-clause-is g c x got = same _ _ (c.in-InstructionLine.ensures.item ∙ got)
