-- What a bound decides, all bounds of the run decide.
use Rattle.std.proofs.Common.{subst, false}
use Rattle.std.specs.Prelude.{nat_lt}
use Rattle.forward_sim.specs.private.AllLanes.{AllDrawn, fault_hits}
use Rattle.forward_sim.specs.private.BoundRuns.{bounds_of_run}
use Rattle.forward_sim.proofs.AllLaneLemmas.{all_like}
use Rattle.forward_sim.proofs.HitLemmas.{fault_equal, fault_never}
use Rattle.forward_sim.proofs.fault_draws.draw_run.Goals as goal

pub returns-then-run-eq0 : goal.returns-then-run-eq0
returns-then-run-eq0 c =
    let run = c.args.run in
    let new = c.pass_over.new in
    all_like run.count (λ k w. false) (fault_hits (bounds_of_run run)) c.args.generators.now new.generators new.words
    (λ k w h. fault_never run.count run.bound k w h c.if-run-eq0.true)
    (subst (λ n. AllDrawn n (λ k w. false) c.args.generators.now new.words new.generators) c.requires.fits c.pass_over.ensures)

pub returns-then-run : goal.returns-then-run
returns-then-run c =
    let run = c.args.run in
    let new = c.draw_into_all.new in
    all_like run.count (λ k w. nat_lt w run.bound) (fault_hits (bounds_of_run run)) c.args.generators.now new.generators new.words
    (λ k w h. fault_equal run.count run.bound k w h)
    (subst (λ n. AllDrawn n (λ k w. nat_lt w run.bound) c.args.generators.now new.words new.generators) c.requires.fits c.draw_into_all.ensures)
