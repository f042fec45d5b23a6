-- Pair after pair, and an odd word behind them.
use Rattle.std.proofs.Common.{◌≡◌, ℕ, ◌+◌, ◌-◌, ◌*◌, length, refl, ap, subst, ◌∙◌, arith, sym}
use Rattle.std.specs.Prelude.{Bool}
use Rattle.forward_sim.specs.Drawn.{after_words, word_at}
use Rattle.forward_sim.specs.private.LaneDraws.{DrawsInto}
use Rattle.forward_sim.proofs.LaneLemmas.{draws_nothing, draws_next}
use Rattle.forward_sim.proofs.WordLemmas.{after_words-none, after_words-add, word_of_state_behind}
use Rattle.forward_sim.proofs.lane_draws.draw_lane.Goals as goal

pub loop-pair-init : goal.loop-pair-init
loop-pair-init g c =
    record {
      drawn = draws_nothing c.args.lane 0 (λ k. g.D.WordDraw.hits c.args.draw.now k (word_at c.args.rng.now k)) c.args.words.now;
      taken = c.copy_of-here.ensures ∙ sym (after_words-none c.args.rng.now);
    }

pub loop-pair-preserved : goal.loop-pair-preserved
loop-pair-preserved g c =
    let lane = c.args.lane in
    let from = c.args.rng.now in
    let hit : ℕ → ℕ → Bool = g.D.WordDraw.hits c.args.draw.now in
    let hits : ℕ → Bool = λ k. hit k (word_at from k) in
    let n = 2 * c.loop-pair.pair in
    let more : n + 1 + 1 ≡ 2 * (c.loop-pair.pair + 1) = omega arith in
    let step : n + 2 ≡ 2 * (c.loop-pair.pair + 1) = omega arith in
    let so_far = c.loop-pair.invariant in
    let first = c.state_behind.result in
    let second = c.state_behind-in-loop-pair.result in
    let first_word = word_of_state_behind from c.loop-pair.here n 0 n first (omega arith) so_far.taken c.state_behind.ensures in
    let second_word = word_of_state_behind from c.loop-pair.here n 1 (n + 1) second refl so_far.taken c.state_behind-in-loop-pair.ensures in
    record {
      drawn =
          subst (λ m. DrawsInto lane 0 m hits c.args.words.now c.draw_one-in-loop-pair.new.words) more
          (draws_next lane (n + 1) hits (hit (n + 1)) second c.args.words.now c.draw_one.new.words c.draw_one-in-loop-pair.new.words (ap (hit (n + 1)) second_word)
          (draws_next lane n hits (hit n) first c.args.words.now c.loop-pair.words c.draw_one.new.words (ap (hit n) first_word) so_far.drawn c.draw_one.ensures)
          c.draw_one-in-loop-pair.ensures);
      taken =
          c.advance.ensures
          ∙ (ap (after_words 2) so_far.taken
          ∙ (sym (after_words-add n 2 from) ∙ ap (λ m. after_words m from) step));
    }

pub returns-then-count-eq1-clause-drawn : goal.returns-then-count-eq1-clause-drawn
returns-then-count-eq1-clause-drawn g c =
    let lane = c.args.lane in
    let from = c.args.rng.now in
    let hit : ℕ → ℕ → Bool = g.D.WordDraw.hits c.args.draw.now in
    let hits : ℕ → Bool = λ k. hit k (word_at from k) in
    let n = length c.args.words.now - 1 in
    let all : n + 1 ≡ length c.args.words.now = omega (arith, c.if-count-eq1.true) in
    let pairs : 2 * c.loop-pair.pair ≡ n = omega (arith, c.if-count-eq1.true, c.loop-pair-test.false, c.loop-pair.auto.pair-end) in
    let last = c.state_behind-then-count-eq1.result in
    let so_far = subst (λ m. DrawsInto lane 0 m hits c.args.words.now c.loop-pair.words) pairs c.loop-pair.invariant.drawn in
    let at = c.loop-pair.invariant.taken ∙ ap (λ m. after_words m from) pairs in
    let word = word_of_state_behind from c.loop-pair.here n 0 n last (omega arith) at c.state_behind-then-count-eq1.ensures in
    subst (λ m. DrawsInto lane 0 m hits c.args.words.now c.draw_one-then-count-eq1.new.words) all
    (draws_next lane n hits (hit n) last c.args.words.now c.loop-pair.words c.draw_one-then-count-eq1.new.words (ap (hit n) word) so_far c.draw_one-then-count-eq1.ensures)

pub returns-then-count-eq1-clause-taken : goal.returns-then-count-eq1-clause-taken
returns-then-count-eq1-clause-taken g c =
    let from = c.args.rng.now in
    let n = 2 * c.loop-pair.pair in
    let all : n + 1 ≡ length c.args.words.now = omega (arith, c.if-count-eq1.true, c.loop-pair-test.false, c.loop-pair.auto.pair-end) in
    c.advance-then-count-eq1.ensures
    ∙ (ap (after_words 1) c.loop-pair.invariant.taken
    ∙ (sym (after_words-add n 1 from) ∙ ap (λ m. after_words m from) all))
