-- What was lent to the undoer is as it was left, where the walk stands.
use Rattle.std.proofs.Common.{rules, refl, sym, subst}
use Rattle.std.specs.Prelude.{reverse}
use Rattle.std.proofs.lemmas.Result.{on_ok_weaker}
use Rattle.circuit_walk.specs.Programs.{KeptProgram}
use Rattle.backward.specs.private.Passes.{IsPassed}
use Rattle.backward.specs.private.Steps.{AreGoneOver}
use Rattle.backward.specs.private.Stretches.{Gives, lines_between}
use Rattle.backward.proofs.StepLemmas.{undoing_none}
use Rattle.backward.proofs.pass.steps_back.Goals as goal

pub undo_some-requires-clause-stands : goal.undo_some-requires-clause-stands
undo_some-requires-clause-stands g c =
    let s = c.requires.stands in
    let walk = c.args.at.now.walk in
    (refl, refl, refl, c.place.ensures, undoing_none c.args.program.now walk.program c.place.result walk.place c.args.at.now.tracker c.args.found.now c.args.lines.now s.program_is c.place.ensures s.store s.passed)

pub shape_of-at : goal.shape_of-at
shape_of-at g c = sym c.undo_some.ensures.undone.lasts.0

pub returns : goal.returns
returns g c =
    let program = c.args.program.now in
    let s = c.requires.stands in
    let walk = c.args.at.now.walk in
    let holds = g.L.LineStore.holds in
    let tracked = g.T.Tracker.tracked in
    let e = c.undo_some.ensures in
    let now = c.undo_some.new.undoer in
    let place = c.undo_some.new.self.place in
    let undone = e.undone in
    let all : AreGoneOver tracked g.L.LineStore.program holds program.listing c.args.to walk.place c.args.at.now (record { walk = c.undo_some.new.self; tracker = now.tracker.now }) c.args.found.now now.found.now c.args.lines.now now.lines.now c.undo_some.result = record {
      program_is = e.program;
      above = e.above;
      below = e.below;
      passed = on_ok_weaker c.undo_some.result (λ u. subst (λ (p : KeptProgram). IsPassed p.listing place (tracked now.tracker.now) now.found.now) s.program_is u.4.passed) undone.stands;
      stays = undone.lasts.3;
      lines = on_ok_weaker c.undo_some.result (λ u. subst (λ (p : KeptProgram). Gives (holds c.args.lines.now) (holds now.lines.now) (reverse (lines_between p.listing place walk.place))) s.program_is (subst (λ k. Gives (holds c.args.lines.now) (holds now.lines.now) (reverse (lines_between walk.program.listing place k))) c.place.ensures u.4.lines)) undone.stands;
      store = undone.lasts.4;
    } in
    let found = undone.lasts.1 in
    let lines = undone.lasts.2 in
    search rules
