use Rattle.std.proofs.Common.{◌∙◌, sym}
use Rattle.stim_parser.specs.private.QubitSets.{is_named}
use Rattle.stim_parser.proofs.ProductSteps.{back-step, beyond-second, cut_two}
use Rattle.stim_parser.proofs.products.go_back.Goals as goal

pub take_out-requires : goal.take_out-requires
take_out-requires c =
    (beyond-second _ _ _ _ (cut_two c.loop-left.left.now c.first-item.result c.second-item.result c.in-len2-up.len_at_least c.first-item.is c.second-item.is) c.loop-left.invariant.0).0

pub loop-left-preserved : goal.loop-left-preserved
loop-left-preserved c =
    back-step (is_named c.loop-left.named.words) (is_named c.take_out.new.named.words) (is_named c.args.named.now.words) _ _ _ c.loop-left.left.now c.args.targets.now
    (cut_two c.loop-left.left.now c.first-item.result c.second-item.result c.in-len2-up.len_at_least c.first-item.is c.second-item.is)
    (sym c.is_joining.ensures ∙ c.if-not-is_joining.false)
    c.take_out.ensures c.loop-left.invariant
