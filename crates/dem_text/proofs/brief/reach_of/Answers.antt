use Rattle.std.proofs.Common.{pos, ap, ◌∙◌, rules, arith}
use Rattle.std.specs.Prelude.{max, nat_abs}
use Rattle.std.proofs.lemmas.Int.{ints}
use Rattle.std.proofs.lemmas.List.{drop_all, drop_more}
use Rattle.dem_text.proofs.CountLemmas.{raised-done, raised-next}
use Rattle.dem_text.proofs.brief.reach_of.Goals as goal

pub loop-number-preserved : goal.loop-number-preserved
loop-number-preserved c =
    let next = drop_more c.args.numbers.now c.loop-number.number-index (pos 0) c.loop-number-test.true in
    raised-next nat_abs _ _ _ _ _ next (c.max-found.ensures ∙ ap (max c.loop-number.found) (search (arith, rules, ints))) ∙ c.loop-number.invariant

pub returns : goal.returns
returns c = raised-done nat_abs _ _ (drop_all c.loop-number.number-index c.args.numbers.now c.loop-number-test.false) ∙ c.loop-number.invariant
