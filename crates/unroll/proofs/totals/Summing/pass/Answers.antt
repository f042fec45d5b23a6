use Rattle.std.proofs.Common.{subst}
use Rattle.arrayvec.specs.ArrayVec.{array_vec_len}
use Rattle.stim_lexer.specs.declared.items.Item.{Item}
use Rattle.stim_parser.specs.Circuits.{Fits}
use Rattle.stim_parser.specs.Kept.{item_in}
use Rattle.stim_parser.specs.declared.operation.Operation.{Operation}
use Rattle.stim_parser.specs.declared.target.Target.{Target}
use Rattle.stim_lexer.specs.Passes.{CanStand}
use Rattle.unroll.proofs.totals.Summing.pass.Goals as goal

pub add-requires : goal.add-requires
add-requires c =
    subst (λ (item : Item Operation Target). CanStand Fits (item_in item) (array_vec_len c.args.self.now.blocks)) c.in-InstructionLine.is c.requires
