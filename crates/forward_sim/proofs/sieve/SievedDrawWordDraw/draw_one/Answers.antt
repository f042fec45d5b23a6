-- A word that doesn't pass isn't below the bound.
use Rattle.std.proofs.Common.{◌+◌}
use Rattle.std.specs.Prelude.{nat_lt}
use Rattle.std.proofs.lemmas.Bool.{false≢true}
use Rattle.rand_pcg.specs.Pcg.{output_xsl_rr}
use Rattle.forward_sim.specs.private.Sieves.{Passes}
use Rattle.forward_sim.proofs.LaneLemmas.{draws_missed}
use Rattle.forward_sim.proofs.Rotations.{sifted_out}
use Rattle.forward_sim.proofs.sieve.SievedDrawWordDraw.draw_one.Goals as goal

pub returns-else-passes : goal.returns-else-passes
returns-else-passes c =
    let draw = c.args.self.now in
    let masks = draw.sieve.now.masks in
    let state = c.args.state in
    let stays : ¬ Passes masks state = λ passes. false≢true (c.if-passes.ensures.1 passes) in
    let missed = sifted_out masks state draw.equal.bound draw.sieve.now.lets_pass c.ranges.state.fits draw.seldom stays in
    draws_missed c.args.lane c.args.k (c.args.k + 1) (λ k. nat_lt (output_xsl_rr state) draw.equal.bound) c.args.words.now (λ k low high. missed)
