-- The line of the fault.
use Rattle.std.proofs.Common.{◌≡◌, ◌+◌, ◌∙◌, ℕ, ◌-◌, subst, sym, refl, arith}
use Rattle.std.proofs.lemmas.Result.{on_ok_weaker}
use Rattle.circuit_walk.specs.Named.{IsStepOf}
use Rattle.step_model.specs.Listing.{Fault}
use Rattle.backward.specs.private.Passes.{IsPassed, IsStepAt}
use Rattle.backward.specs.private.Steps.{IsGoneOver}
use Rattle.backward.proofs.StepLemmas.{stays_over, step_at, store_over, undoing_over}
use Rattle.backward.proofs.pass.UndoingStepUndoer.undo_fault.Goals as goal

pub overflow_sub-self : goal.overflow_sub-self
overflow_sub-self g c = omega (arith, c.requires.1.2.3)

-- the place that is told
place_is : (place k : ℕ) → place ≡ k + 1 → place - 1 ≡ k
place_is place k e = omega (arith, e)

pub fault_back-requires-clause-step : goal.fault_back-requires-clause-step
fault_back-requires-clause-step g c =
    let n = c.requires.1 in
    let program = c.args.program.now.listing in
    subst (λ p. IsStepAt program p (Fault c.args.name.number)) (sym (place_is _ n.1 n.2.3)) (step_at program n.1 (Fault c.args.name.number) n.3)

pub fault_back-requires-clause-store : goal.fault_back-requires-clause-store
fault_back-requires-clause-store g c = let u = c.requires.1.2.4 in u.store ∙ u.program_is

pub fault_back-requires-clause-passed : goal.fault_back-requires-clause-passed
fault_back-requires-clause-passed g c =
    let n = c.requires.1 in
    subst (λ p. IsPassed c.args.program.now.listing (p + 1) (g.T.Tracker.tracked c.args.self.now.tracker.now) c.args.self.now.found.now) (sym (place_is _ n.1 n.2.3)) n.2.4.passed

pub returns : goal.returns
returns g c begun k h got =
    let program = c.args.program.now in
    let self = c.args.self.now in
    let over = subst (λ p. IsGoneOver g.T.Tracker.tracked g.L.LineStore.program g.L.LineStore.holds program.listing p c.fault_back.new.tracker self.found.now c.fault_back.new.found self.lines.now c.fault_back.new.lines c.fault_back.result) (place_is _ k h.3) c.fault_back.ensures in
    record {
      stands = on_ok_weaker c.fault_back.result (λ u. (h.0, h.1, h.2, omega (arith, h.3), u)) (undoing_over h.4 over);
      lasts = (h.0, h.1, h.2, stays_over h.4 over, store_over h.4 over);
    }
