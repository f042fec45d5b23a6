-- Each fault takes the next word.
use Rattle.std.proofs.Common.{length, ap, arith}
use Rattle.std.specs.Prelude.{nat_lt, slice_index_or}
use Rattle.forward_sim.proofs.WordLemmas.{filled_none, filled_on}
use Rattle.forward_sim.proofs.drawing.draw_faults.Goals as goal

pub loop-f-init : goal.loop-f-init
loop-f-init c =
    let bounds = c.args.bounds.now in
    filled_none (λ k w. nat_lt w (slice_index_or bounds k 0)) (length bounds) c.args.rng.now c.args.faults.now c.requires

pub loop-f-preserved : goal.loop-f-preserved
loop-f-preserved c =
    let l = c.loop-f in
    let bounds = c.args.bounds.now in
    filled_on (λ k w. nat_lt w (slice_index_or bounds k 0)) (length bounds) c.args.rng.now l.rng c.next_word.new.self l.f c.next_word.result l.faults _ (omega (arith, l.invariant.size)) l.invariant c.next_word.ensures
    (ap (λ w. nat_lt w (slice_index_or bounds l.f 0)) c.from-word.ensures)
