use Rattle.std.proofs.Common.{ap, subst, ◌∙◌, arith}
use Rattle.std.specs.Prelude.{IfOk}
use Rattle.std.proofs.lemmas.Result.{on_ok_weaker}
use Rattle.backward.specs.private.Points.{AreParts}
use Rattle.backward.proofs.StretchLemmas.{fits_tracker, passed_at_point, passed_for, ready_parts}
use Rattle.backward.proofs.stretch.cut_from.Goals as goal

pub restore-requires : goal.restore-requires
restore-requires g c = fits_tracker c.args.program.now c.args.point (g.T.Tracker.tracked c.args.at.now.tracker) c.requires.tracker c.requires.point

pub cut-requires-clause-program : goal.cut-requires-clause-program
cut-requires-clause-program g c = ap (λ w. w.program) c.copy-at.ensures ∙ c.requires.point.program_is

pub cut-requires-clause-passed : goal.cut-requires-clause-passed
cut-requires-clause-passed g c =
    passed_at_point g.T.Tracker.tracked c.args.program.now c.args.point.walk.place c.args.point c.args.found.now c.args.at.now (record { walk = c.copy-at.result; tracker = c.restore.new.self }) c.requires.tracker c.copy-at.ensures c.in_ok-restore.ensures c.requires.ready c.requires.point (omega arith)

pub returns-clause-tracker : goal.returns-clause-tracker
returns-clause-tracker g c =
    on_ok_weaker c.cut.result (passed_for c.args.program.now.listing c.args.from (g.T.Tracker.tracked c.cut.new.at.tracker) c.cut.new.found) c.cut.ensures.passed

pub returns-clause-ready : goal.returns-clause-ready
returns-clause-ready g c =
    ready_parts c.args.program.now c.args.from c.copy-at.result.place (g.T.Tracker.tracked c.cut.new.at.tracker) c.cut.new.found c.cut.result (c.cut.ensures.settled ∙ c.requires.ready.settled) c.cut.ensures.keeps c.cut.ensures.passed c.cut.ensures.parts

pub returns-clause-known : goal.returns-clause-known
returns-clause-known g c = c.cut.ensures.known c.requires.ready.keeps

pub returns-clause-parts : goal.returns-clause-parts
returns-clause-parts g c =
    subst (λ place. IfOk c.cut.result (AreParts c.args.program.now c.args.from place c.cut.new.found.known)) (ap (λ w. w.place) c.copy-at.ensures) c.cut.ensures.parts
