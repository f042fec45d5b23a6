-- All words are written over.
use Rattle.std.proofs.Common.{◌≡◌, ℕ, List, ◌++◌, drop, length, take, sym, ap, ap₂, subst, ◌∙◌, arith}
use Rattle.std.proofs.Math.Seq.{take-append_seam}
use Rattle.forward_sim.specs.Drawn.{after_shots}
use Rattle.forward_sim.specs.Shots.{AreDrawn, ShotWords}
use Rattle.forward_sim.proofs.shots.Shots.draw.Goals as goal

-- what a list of n words holds once these are written over its first
abbrev written : {X : Type 0} → ℕ → List X → List X → List X
written n new old = take n (new ++ drop (length new) old)

over : {X : Type 0} (n : ℕ) (new old : List X) → length new ≡ n → written n new old ≡ new
over n new old h = ap (λ k. take k (new ++ drop (length new) old)) (sym h) ∙ take-append_seam new (drop (length new) old)

pub draw_lanes-requires-clause-room : goal.draw_lanes-requires-clause-room
draw_lanes-requires-clause-room g c =
    record {
      faults_fit = ap length c.deref_mut.ensures.value ∙ c.self.invariant.0.faults_fit;
      order = c.self.invariant.0.order;
      within = omega (arith, c.self.invariant.0.within, ap length c.deref_mut-2.ensures.value);
    }

pub invariant_of-self : goal.invariant_of-self
invariant_of-self g c =
    let drawn = c.draw_lanes.ensures.drawn in
    let coins = drawn.coin_count ∙ ap length c.deref_mut-2.ensures.value in
    let faults_len : length c.draw_lanes.new.faults ≡ c.self.inside.faults.len =
    omega (arith, drawn.fault_count, c.self.invariant.0.faults_fit, c.self.inside.faults.ok.0) in
    let coins_len : length c.draw_lanes.new.coins ≡ c.self.inside.coins.len = omega (arith, coins, c.self.inside.coins.ok.0) in
    let generators_len : length c.draw_lanes.new.generators ≡ c.self.inside.generators.len =
    omega (arith, c.draw_lanes.ensures.generators, c.self.invariant.1, c.self.inside.generators.ok.0) in (
      record {
        faults_fit = ap length (over c.self.inside.faults.len c.draw_lanes.new.faults c.self.inside.faults.items faults_len) ∙ drawn.fault_count;
        order = c.self.invariant.0.order;
        within = omega (arith, c.self.invariant.0.within, coins, ap length (over c.self.inside.coins.len c.draw_lanes.new.coins c.self.inside.coins.items coins_len));
      },
      ap length (over c.self.inside.generators.len c.draw_lanes.new.generators c.self.inside.generators.items generators_len) ∙ c.draw_lanes.ensures.generators,
    )

pub returns-clause-drawn : goal.returns-clause-drawn
returns-clause-drawn g c =
    let inside = c.self.inside in
    let rng = c.args.rng.now in
    let faults = c.draw_lanes.new.faults in
    let coins = c.draw_lanes.new.coins in
    let drawn = c.draw_lanes.ensures.drawn in
    let count = drawn.coin_count ∙ ap length c.deref_mut-2.ensures.value in
    let faults_len : length faults ≡ inside.faults.len = omega (arith, drawn.fault_count, c.self.invariant.0.faults_fit, inside.faults.ok.0) in
    let coins_len : length coins ≡ inside.coins.len = omega (arith, count, inside.coins.ok.0) in
    let of_coins = subst (λ (cs : List ℕ). AreDrawn inside.passed inside.bounds (length cs) c.args.count rng faults coins) c.deref_mut-2.ensures.value drawn in
    subst (λ (s : ShotWords). AreDrawn s.passed s.bounds (length s.coins) c.args.count rng (written inside.faults.len faults inside.faults.items) (written inside.coins.len coins inside.coins.items)) c.self.view_is
    (subst (λ (fs : List ℕ). AreDrawn inside.passed inside.bounds (length inside.coins.items) c.args.count rng fs (written inside.coins.len coins inside.coins.items)) (sym (over inside.faults.len faults inside.faults.items faults_len))
    (subst (λ (cs : List ℕ). AreDrawn inside.passed inside.bounds (length inside.coins.items) c.args.count rng faults cs) (sym (over inside.coins.len coins inside.coins.items coins_len)) of_coins))

pub returns-clause-taken : goal.returns-clause-taken
returns-clause-taken g c =
    c.draw_lanes.ensures.taken
    ∙ ap₂ (λ bounds coins. after_shots bounds coins c.args.count c.args.rng.now)
    (ap (λ (s : ShotWords). length s.bounds) c.self.view_is)
    (ap length c.deref_mut-2.ensures.value ∙ ap (λ (s : ShotWords). length s.coins) c.self.view_is)
