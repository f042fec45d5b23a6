-- Each lane takes its draw, and its generator goes on.
use Rattle.std.proofs.Common.{◌≡◌, length, ap, get_or, refl, ◌∙◌, arith}
use Rattle.forward_sim.specs.Drawn.{after_words}
use Rattle.forward_sim.proofs.AllLaneLemmas.{lane_more, lanes_all, lanes_blank}
use Rattle.forward_sim.proofs.SeatLemmas.{all_seated, current, seat_more}
use Rattle.forward_sim.proofs.all_lanes.draw_into_all.Goals as goal

pub loop-lane-init : goal.loop-lane-init
loop-lane-init g c =
    record {
      lanes = lanes_blank (length c.args.words.now) (g.D.WordDraw.hits c.args.draw.now) c.args.generators.now c.fill.new.self (c.fill.ensures.after (λ y h. h));
      generators = refl;
    }

pub loop-lane-preserved : goal.loop-lane-preserved
loop-lane-preserved g c =
    let n = length c.args.words.now in
    let lane = c.loop-lane.lane in
    let generators = c.args.generators.now in
    let next = c.index-generators-lane in
    let so_far = c.loop-lane.invariant in
    let taken = after_words n in
    record {
      lanes =
          lane_more lane n (g.D.WordDraw.hits c.args.draw.now) generators (get_or c.loop-lane.generators lane next.result) c.loop-lane.words c.draw_lane.new.words
          (current taken generators c.loop-lane.generators lane next.result c.loop-lane-test.true so_far.generators) so_far.lanes c.draw_lane.ensures.drawn;
      generators =
          seat_more taken generators c.loop-lane.generators lane next.result c.draw_lane.new.rng c.loop-lane-test.true so_far.generators next.is
          (c.draw_lane.ensures.taken ∙ ap (λ m. after_words m (get_or c.loop-lane.generators lane next.result)) so_far.lanes.size);
    }

pub returns : goal.returns
returns g c =
    let n = length c.args.words.now in
    let all : c.loop-lane.lane ≡ length c.args.generators.now = omega (arith, c.loop-lane-test.false, c.loop-lane.auto.lane-end) in
    lanes_all c.loop-lane.lane n (g.D.WordDraw.hits c.args.draw.now) c.args.generators.now c.loop-lane.generators c.loop-lane.words all c.loop-lane.invariant.lanes
    (all_seated (after_words n) c.args.generators.now c.loop-lane.generators c.loop-lane.lane c.loop-lane-test.false c.loop-lane.invariant.generators)
