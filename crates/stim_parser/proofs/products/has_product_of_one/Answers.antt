use Rattle.stim_parser.specs.private.QubitSets.{is_named}
use Rattle.stim_parser.proofs.ProductSteps.{between-again, between-step, beyond-first, cut_one}
use Rattle.stim_parser.proofs.products.has_product_of_one.Goals as goal

pub put_in-requires : goal.put_in-requires
put_in-requires c = (beyond-first _ _ _ (cut_one c.loop-left.left.now c.first-item.result c.in-len1-up.len_at_least c.first-item.is) c.loop-left.invariant.0).0

pub go_over-requires : goal.go_over-requires
go_over-requires c = (beyond-first _ _ _ (cut_one c.loop-left.left.now c.first-item.result c.in-len1-up.len_at_least c.first-item.is) c.loop-left.invariant.0).1

pub returns-in_default-go_over : goal.returns-in_default-go_over
returns-in_default-go_over c =
    between-again (is_named c.loop-left.named.words) (is_named c.put_in.new.named.words) _ _ c.loop-left.left.now c.args.targets.now
    (cut_one c.loop-left.left.now c.first-item.result c.in-len1-up.len_at_least c.first-item.is) c.put_in.ensures c.in_default-go_over.ensures.again c.loop-left.invariant

pub go_back-requires : goal.go_back-requires
go_back-requires c = (beyond-first _ _ _ (cut_one c.loop-left.left.now c.first-item.result c.in-len1-up.len_at_least c.first-item.is) c.loop-left.invariant.0).1

pub take_out-requires : goal.take_out-requires
take_out-requires c = (beyond-first _ _ _ (cut_one c.loop-left.left.now c.first-item.result c.in-len1-up.len_at_least c.first-item.is) c.loop-left.invariant.0).0

pub loop-left-preserved : goal.loop-left-preserved
loop-left-preserved c =
    between-step (is_named c.loop-left.named.words) (is_named c.put_in.new.named.words) (is_named c.go_over.new.named.words) (is_named c.go_back.new.named.words)
    (is_named c.take_out.new.named.words) _ _ c.loop-left.left.now c.in-Some.after.now c.args.targets.now
    (cut_one c.loop-left.left.now c.first-item.result c.in-len1-up.len_at_least c.first-item.is) c.put_in.ensures c.in-Some.ensures.again c.in-Some.ensures.named c.in-Some.ensures.within
    c.go_back.ensures c.take_out.ensures c.loop-left.invariant
