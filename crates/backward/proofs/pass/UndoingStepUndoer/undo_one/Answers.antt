-- The words before the gate.
use Rattle.std.proofs.Common.{◌≡◌, ◌+◌, refl, arith}
use Rattle.std.proofs.lemmas.Result.{on_ok_weaker}
use Rattle.backward.proofs.PassSteps.{passed-one}
use Rattle.backward.proofs.StepLemmas.{over_quiet, stays_as, stays_over, step_at, store_over, undoing_over}
use Rattle.backward.proofs.pass.UndoingStepUndoer.undo_one.Goals as goal

pub overflow_sub-self : goal.overflow_sub-self
overflow_sub-self g c = omega (arith, c.requires.1.2.3)

pub returns : goal.returns
returns g c begun k h got =
    let program = c.args._program.now in
    let self = c.args.self.now in
    let there = step_at program.listing k _ got in
    let passed = on_ok_weaker c.undo1.result (λ e. passed-one program k (g.T.Tracker.tracked self.tracker.now) self.found.now h.4.passed c.args.gate c.args.q _ there e) c.undo1.ensures in
    let over = over_quiet self.lines.now c.undo1.result _ there refl (record { passed = passed; stays = stays_as refl refl refl }) in
    record {
      stands = on_ok_weaker c.undo1.result (λ u. (h.0, h.1, h.2, omega (arith, h.3), u)) (undoing_over h.4 over);
      lasts = (h.0, h.1, h.2, stays_over h.4 over, store_over h.4 over);
    }
