use Rattle.std.proofs.Common.{Result, Ok, Err, OnOk, refl, ap, sym, ◌∙◌, arith}
use Rattle.backward.specs.private.Passes.{IsPassed}
use Rattle.backward.proofs.TurnJumps.{Jumped, jumped}
use Rattle.backward.proofs.turns.repeat_turns.Given.{Over}
use Rattle.backward.proofs.turns.repeat_turns.Goals as goal
use Rattle.backward.proofs.turns.repeat_turns.Goals.{In_ok-lists}

-- the turns that the walk went back over are those that repeat
jump : (g : Over) (c : In_ok-lists g) → Jumped c.args.program.now c.args.found.now c.args.period.now c.pass_turns_back-turns.new.self c.pass_turns_back-turns.result (g.T.Tracker.tracked c.args.at.now.tracker) c.in_ok-lists.lists
jump g c =
    let pass = c.pass_turns_back-turns in
    jumped c.args.program.now c.args.found.now c.args.period.now c.copy-walk.result pass.new.self pass.result c.args.at.now.walk.place (g.T.Tracker.tracked c.args.at.now.tracker) c.in_ok-lists.lists c.records.result
    c.well_formed-2.ensures c.requires.period c.copy-walk.ensures pass.ensures.program pass.ensures.place (pass.ensures.repeat (omega (arith, c.if-turns-eq0.false))) (pass.ensures.faults (omega (arith, c.if-turns-eq0.false))) c.records.ensures (omega (arith, c.if-records-period.false)) c.in_ok-lists.ensures c.requires.passed.words

always : {T E : Type 0} (P : Type 0) (r : Result T E) → P → OnOk r P
always P (Ok x) p = p
always P (Err e) p = tt

pub returns-in_err-lists-clause-passed : goal.returns-in_err-lists-clause-passed
returns-in_err-lists-clause-passed g c =
    record {
      program_is = refl;
      above = c.requires.to;
      passed = always (IsPassed c.args.program.now.listing c.args.at.now.walk.place (g.T.Tracker.tracked c.args.at.now.tracker) c.args.found.now) c.from_residual.result c.requires.passed;
      stays = record { settled = refl; keeps = refl; known = λ e. refl };
    }

pub restore-requires : goal.restore-requires
restore-requires g c = (jump g (goal.at.restore-requires g c).In_ok-lists).fit

pub returns-clause-passed : goal.returns-clause-passed
returns-clause-passed g c =
    let pass = c.pass_turns_back-turns in
    record {
      program_is = pass.ensures.program ∙ (ap (λ w. w.program) c.copy-walk.ensures ∙ (c.requires.period.point.program_is ∙ sym c.requires.program));
      above = pass.ensures.above;
      passed = (jump g (goal.at.returns-clause-passed g c).In_ok-lists).passed _ _ _ c.in_ok-restore.ensures c.collapses-found.ensures
          (record { kept = c.known_at-found.ensures.kept; fewer = λ e. c.known_at-found.ensures.fewer e ∙ c.records-2.ensures });
      stays = record { settled = refl; keeps = refl; known = c.known_at-found.ensures.kept };
    }

pub returns-clause-turns : goal.returns-clause-turns
returns-clause-turns g c some =
    record {
      before = omega (arith, c.if-place.false, c.place-else-records-period.ensures, c.place-else-records-period-2.ensures, c.requires.here);
      far = omega (arith, c.in-Some.ensures.0);
      lines = (jump g (goal.at.returns-clause-turns g c).In_ok-lists).lines;
    }
