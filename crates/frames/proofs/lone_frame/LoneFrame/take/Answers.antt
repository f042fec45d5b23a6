-- The step is the next one, and what is left behind it leads on.
use Rattle.std.proofs.Common.{◌+◌, ◌∙◌, drop, subst}
use Rattle.circuit_walk.specs.Steps.{listed}
use Rattle.forward_sim.proofs.WalkedSteps.{drop-step}
use Rattle.step_model.proofs.StepNumbers.{fits_at}
use Rattle.frames.specs.private.LoneFrames.{IsOnWay}
use Rattle.frames.proofs.lone_frame.LoneFrame.take.Goals as goal

pub go_over-requires-clause-fits : goal.go_over-requires-clause-fits
go_over-requires-clause-fits g c =
    let n = c.requires.next in
    fits_at c.args.program.now.listing n.3 (listed c.args.program.now.listing.qubits c.args.step) c.well_formed-2.ensures n.5

pub go_over-requires-clause-size : goal.go_over-requires-clause-size
go_over-requires-clause-size g c = (c.requires.next.4 c.if-self.false).size

pub returns-in-Ok : goal.returns-in-Ok
returns-in-Ok g c behind v collapsed k before here well =
    let p = c.args.program.now.listing in
    let old = c.args.self.now in
    let was = before c.if-self.false in
    let steps = drop (k + 1) p.steps in
    record {
      same = c.in-Ok.ensures.collapsed ∙ was.same;
      size = c.in-Ok.ensures.size;
      way =
          subst (λ b. IsOnWay p behind v b steps c.go_over.new.self.ahead c.go_over.new.self.frame c.go_over.new.self.flips.items) (c.in-Ok.ensures.collapsed ∙ was.same)
          (c.in-Ok.ensures.way behind v steps
          (rw was.same (subst (λ left. IsOnWay p behind v collapsed left old.ahead old.frame old.flips.items) (drop-step p.steps k (listed p.qubits c.args.step) here) was.way)));
    }
