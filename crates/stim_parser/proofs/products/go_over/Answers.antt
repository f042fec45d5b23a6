use Rattle.std.proofs.Common.{◌∙◌, sym}
use Rattle.stim_parser.specs.private.QubitSets.{is_named}
use Rattle.stim_parser.proofs.ProductSteps.{beyond-second, cut_two, over-step}
use Rattle.stim_parser.proofs.products.go_over.Goals as goal

pub is_factor_within-requires : goal.is_factor_within-requires
is_factor_within-requires c =
    (beyond-second _ _ _ _ (cut_two c.loop-left.left.now c.first-item.result c.second-item.result c.in-len2-up.len_at_least c.first-item.is c.second-item.is) c.loop-left.invariant.0).0

pub put_in-requires : goal.put_in-requires
put_in-requires c =
    (beyond-second _ _ _ _ (cut_two c.loop-left.left.now c.first-item.result c.second-item.result c.in-len2-up.len_at_least c.first-item.is c.second-item.is) c.loop-left.invariant.0).0

pub loop-left-preserved : goal.loop-left-preserved
loop-left-preserved c =
    over-step (is_named c.loop-left.named.words) (is_named c.put_in.new.named.words) (is_named c.args.named.now.words) _ _ _ c.loop-left.left.now c.args.targets.now
    (cut_two c.loop-left.left.now c.first-item.result c.second-item.result c.in-len2-up.len_at_least c.first-item.is c.second-item.is)
    (sym c.is_joining.ensures ∙ c.if-not-is_joining.false)
    (sym c.is_factor_within.ensures ∙ c.if-is_factor_within.false)
    c.put_in.ensures c.loop-left.invariant
