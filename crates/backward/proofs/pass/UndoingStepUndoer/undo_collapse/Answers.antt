-- The collapse at its qubit.
use Rattle.std.proofs.Common.{◌≡◌, ◌+◌, ◌∷◌, [], Bool, true, false, Some, None, ◌∙◌, ℕ, ◌-◌, subst, sym, refl, arith}
use Rattle.std.proofs.lemmas.Result.{on_ok_weaker}
use Rattle.circuit_walk.specs.Steps.{listed}
use Rattle.circuit_walk.specs.declared.step.Step.TheVariants.{Collapse}
use Rattle.std.specs.Bool.{then_some}
use Rattle.std.specs.Prelude.{if◌then◌else◌}
use Rattle.backward.specs.private.Passes.{IsCollapseAt, IsPassed}
use Rattle.backward.specs.private.Steps.{IsGoneOver}
use Rattle.backward.proofs.PassSteps.{letter_at_place}
use Rattle.backward.proofs.StepLemmas.{stays_over, step_at, store_over, undoing_over}
use Rattle.backward.proofs.pass.UndoingStepUndoer.undo_collapse.Goals as goal

pub overflow_sub-self : goal.overflow_sub-self
overflow_sub-self g c = omega (arith, c.requires.1.2.3)

-- the place that is told
place_is : (place k : ℕ) → place ≡ k + 1 → place - 1 ≡ k
place_is place k e = omega (arith, e)

some_where : (b : Bool) (q : ℕ) → then_some b q ≡ (if b then Some q else None)
some_where true q = refl
some_where false q = refl

pub collapse-requires-clause-step : goal.collapse-requires-clause-step
collapse-requires-clause-step g c =
    let n = c.requires.1 in
    let program = c.args.program.now in
    let a = c.args in
    let there = step_at program.listing n.1 (listed program.listing.qubits (Collapse a.letter a.qubit a.rec a.reset a._inverted a.flip)) n.3 in
    let step = letter_at_place program n.1 a.letter a.qubit a.reset a._inverted a.rec a.flip c.then_some.result there (c.then_some.ensures ∙ some_where a.reset a.qubit) c.requires.0.1 c.requires.0.2 c.requires.0.3 in
    subst (λ p. IsCollapseAt program p (record { qubit = a.qubit; letter = a.letter } ∷ []) c.then_some.result a.rec a.flip) (sym (place_is _ n.1 n.2.3)) step

pub collapse-requires-clause-store : goal.collapse-requires-clause-store
collapse-requires-clause-store g c = let u = c.requires.1.2.4 in u.store ∙ u.program_is

pub collapse-requires-clause-passed : goal.collapse-requires-clause-passed
collapse-requires-clause-passed g c =
    let n = c.requires.1 in
    subst (λ p. IsPassed c.args.program.now.listing (p + 1) (g.T.Tracker.tracked c.args.self.now.tracker.now) c.args.self.now.found.now) (sym (place_is _ n.1 n.2.3)) n.2.4.passed

pub returns : goal.returns
returns g c begun k h got =
    let program = c.args.program.now in
    let self = c.args.self.now in
    let over = subst (λ p. IsGoneOver g.T.Tracker.tracked g.L.LineStore.program g.L.LineStore.holds program.listing p c.collapse.new.tracker self.found.now c.collapse.new.found self.lines.now c.collapse.new.lines c.collapse.result) (place_is _ k h.3) c.collapse.ensures in
    record {
      stands = on_ok_weaker c.collapse.result (λ u. (h.0, h.1, h.2, omega (arith, h.3), u)) (undoing_over h.4 over);
      lasts = (h.0, h.1, h.2, stays_over h.4 over, store_over h.4 over);
    }
