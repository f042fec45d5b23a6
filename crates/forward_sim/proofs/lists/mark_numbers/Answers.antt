-- Behind all numbers each is marked.
use Rattle.std.proofs.Common.{length, ap, sym, ◌∙◌}
use Rattle.std.proofs.lemmas.List.{at_drop_all}
use Rattle.forward_sim.proofs.NumberLemmas.{set_all, set_all-marks}
use Rattle.forward_sim.proofs.lists.mark_numbers.Goals as goal

pub returns : goal.returns
returns c =
    let numbers = c.args.numbers.now in
    sym (at_drop_all (λ ns. set_all ns c.loop-n.marked) numbers c.loop-n.n-index c.loop-n-test.false)
    ∙ c.loop-n.invariant.left
    ∙ ap (set_all numbers) c.requires.fresh
    ∙ set_all-marks (length c.args.marked.now) numbers
