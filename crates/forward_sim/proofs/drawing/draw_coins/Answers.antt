-- Each coin takes the next word.
use Rattle.std.proofs.Common.{◌%◌, ◌==◌, length, refl, arith}
use Rattle.forward_sim.proofs.WordLemmas.{filled_none, filled_on}
use Rattle.forward_sim.proofs.drawing.draw_coins.Goals as goal

pub loop-c-init : goal.loop-c-init
loop-c-init c = filled_none (λ k w. w % 2 == 1) (length c.args.coins.now) c.args.rng.now c.args.coins.now refl

pub loop-c-preserved : goal.loop-c-preserved
loop-c-preserved c =
    let l = c.loop-c in
    filled_on (λ k w. w % 2 == 1) (length c.args.coins.now) c.args.rng.now l.rng c.next_word.new.self l.c c.next_word.result l.coins _ (omega (arith, l.invariant.size)) l.invariant c.next_word.ensures refl
