-- The item is the instruction, which fits.
use Rattle.std.proofs.Common.{◌≡◌, Some, sym, ◌∙◌, subst}
use Rattle.std.proofs.lemmas.Option.{slice_get_within}
use Rattle.stim_lexer.specs.Trees.{InstructionLine}
use Rattle.stim_parser.specs.Circuits.{Fits}
use Rattle.stim_parser.specs.Verdicts.{Instruction}
use Rattle.circuit_walk.specs.private.InstructionSteps.{AreStepsOf}
use Rattle.circuit_walk.proofs.program.Text.steps_at.Goals as goal

same : (x y : Instruction) → Some (InstructionLine x) ≡ Some (InstructionLine y) → x ≡ y
same x y e = cc

pub get-requires : goal.get-requires
get-requires g c = slice_get_within c.args.self.now.items.now.items c.args.i _ c.requires.1

pub new-requires : goal.new-requires
new-requires g c = subst Fits (sym (same _ _ (c.in-InstructionLine.ensures.item ∙ c.requires.1))) c.requires.2

pub returns-clause-steps : goal.returns-clause-steps
returns-clause-steps g c x got =
    subst (λ y. AreStepsOf y c.new.result) (same _ _ (c.in-InstructionLine.ensures.item ∙ got)) c.new.ensures.steps
