-- Piece after piece.
use Rattle.std.proofs.Common.{◌≡◌, ◌+◌, ◌-◌, ◌≤◌, length, refl, subst, arith}
use Rattle.forward_sim.specs.private.AllLanes.{DrawnUpTo}
use Rattle.forward_sim.proofs.AllLaneLemmas.{none_drawn, part_drawn}
use Rattle.forward_sim.proofs.all_lanes.draw_pieces.Goals as goal

pub loop-start-init : goal.loop-start-init
loop-start-init g c = record { within = omega arith; drawn = none_drawn (g.D.WordDraw.hits c.args.draw.now) c.args.generators.now c.args.words.now }

pub loop-start-preserved : goal.loop-start-preserved
loop-start-preserved g c =
    let at = c.loop-start.start in
    let n = c.min.result in
    let so_far = c.loop-start.invariant in
    let piece : at + n - at ≡ n = omega arith in
    let within : at + n ≤ length c.args.words.now = omega (arith, c.min.ensures, c.loop-start-test.true, so_far.drawn.size) in
    record {
      within = within;
      drawn = part_drawn (g.D.WordDraw.hits c.args.draw.now) n (at + n - at) piece within so_far.drawn c.draw_into_all.ensures (λ i w h. refl) (λ i w h. c.part-part.ensures.hits i w (omega (arith, h)));
    }

pub returns : goal.returns
returns g c =
    let so_far = c.loop-start.invariant in
    let words = c.args.words.now in
    let all : c.loop-start.start ≡ length words = omega (arith, so_far.within, so_far.drawn.size, c.loop-start-test.false) in
    subst (λ n. DrawnUpTo n (length words) (g.D.WordDraw.hits c.args.draw.now) c.args.generators.now c.loop-start.words c.loop-start.generators) all so_far.drawn
