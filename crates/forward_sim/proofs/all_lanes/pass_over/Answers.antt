-- Generator after generator.
use Rattle.std.proofs.Common.{length, ap, get_or, ◌∙◌}
use Rattle.forward_sim.specs.Drawn.{after_words}
use Rattle.forward_sim.proofs.AllLaneLemmas.{all_passed}
use Rattle.forward_sim.proofs.SeatLemmas.{all_seated, seat_more}
use Rattle.forward_sim.proofs.all_lanes.pass_over.Goals as goal

pub loop-lane-preserved : goal.loop-lane-preserved
loop-lane-preserved c =
    let n = length c.args.words.now in
    let next = c.index-generators-lane in
    seat_more (after_words n) c.args.generators.now c.loop-lane.generators c.loop-lane.lane next.result c.advance.new.self c.loop-lane-test.true c.loop-lane.invariant next.is
    (c.advance.ensures ∙ ap (λ m. after_words m (get_or c.loop-lane.generators c.loop-lane.lane next.result)) c.fill.ensures.len)

pub returns : goal.returns
returns c =
    let n = length c.args.words.now in
    all_passed n c.args.generators.now c.loop-lane.generators c.fill.new.self (c.fill.ensures.after (λ y h. h))
    (all_seated (after_words n) c.args.generators.now c.loop-lane.generators c.loop-lane.lane c.loop-lane-test.false c.loop-lane.invariant)
