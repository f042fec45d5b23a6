-- Each lane has the faults and the coins of its shot.
use Rattle.std.proofs.Common.{◌≡◌, ℕ, ◌+◌, ◌*◌, ◌<◌, length, ap, ap₂, ◌∙◌, arith}
use Rattle.rand_pcg.specs.Lcg.{Lcg}
use Rattle.forward_sim.specs.Drawn.{after_shots, after_words, word_at}
use Rattle.forward_sim.specs.private.AllLanes.{coin_hits, fault_hits, generator_at}
use Rattle.forward_sim.proofs.AllLaneLemmas.{generator_after, generators_count, lane_idle, lane_is}
use Rattle.forward_sim.proofs.side_draws.draw_lanes.Goals as goal

pub returns-clause-drawn : goal.returns-clause-drawn
returns-clause-drawn g c =
    let bounds = c.args.bounds.now in
    let n = length bounds in
    let collapses = length c.args.coins.now in
    let from = c.args.rng.now in
    let count = c.args.count in
    let lanes = c.split_at_mut-lanes.result.0.now in
    let apart = c.set_apart.new.generators in
    let faults = c.draw_faults.ensures in
    let coins = c.draw_coins.ensures in
    let many : length lanes ≡ count = c.split_at_mut-lanes.ensures.front_len in
    let apart_many : length apart ≡ count = c.set_apart.ensures.size ∙ many in
    let then = c.draw_faults.new.generators in
    let then_many : length then ≡ count = generators_count n apart then faults.taken ∙ apart_many in
    let words : length c.args.faults.now + collapses ≡ n + collapses = ap (λ m. m + collapses) c.requires.room.faults_fit in
    let start : ℕ → Lcg = λ j. after_shots n collapses j from in
    let starts : (j : ℕ) → j < count → generator_at apart j ≡ start j =
    λ j h. c.set_apart.ensures.each j (omega (arith, h, many)) ∙ ap (λ w. after_words (j * w) from) words in
    let starts_then : (j : ℕ) → j < count → generator_at then j ≡ after_words n (start j) =
    λ j h. generator_after n j apart then (omega (arith, h, apart_many)) faults.taken ∙ ap (after_words n) (starts j h) in
    record {
      fault_count = faults.size;
      coin_count = coins.size;
      faults = λ j h.
          lane_is j n (λ k. fault_hits bounds k (word_at (start j) k)) c.draw_faults.new.faults faults.size
          (λ k l. faults.lanes.drawn j k (omega (arith, h, apart_many)) l ∙ ap (λ r. fault_hits bounds k (word_at r k)) (starts j h));
      coins = λ j h.
          lane_is j collapses (λ k. coin_hits c.args.passed k (word_at (after_words n (start j)) k)) c.draw_coins.new.coins coins.size
          (λ k l. coins.drawn.drawn j k (omega (arith, h, then_many)) l ∙ ap (λ r. coin_hits c.args.passed k (word_at r k)) (starts_then j h));
      idle_faults = λ j h l. lane_idle j n c.draw_faults.new.faults faults.size (λ k m. faults.lanes.idle j k (omega (arith, h, apart_many)) m);
      idle_coins = λ j h l. lane_idle j collapses c.draw_coins.new.coins coins.size (λ k m. coins.drawn.idle j k (omega (arith, h, then_many)) m);
    }

pub returns-clause-taken : goal.returns-clause-taken
returns-clause-taken g c =
    let collapses = length c.args.coins.now in
    let from = c.args.rng.now in
    c.set_apart.ensures.taken
    ∙ ap₂ (λ m w. after_words (m * w) from) c.split_at_mut-lanes.ensures.front_len (ap (λ m. m + collapses) c.requires.room.faults_fit)
