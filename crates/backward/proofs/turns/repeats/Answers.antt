use Rattle.std.proofs.Common.{reverse, ap, ap₂, sym, ◌∙◌, arith}
use Rattle.std.proofs.lemmas.List.{reverse-reverse}
use Rattle.step_model.specs.ErrorModels.{ErrorLine}
use Rattle.backward.specs.private.Stretches.{lines_between}
use Rattle.backward.specs.private.TurnLines.{turn_lines}
use Rattle.backward.proofs.turns.repeats.Goals as goal

pub repeat_turns-requires-clause-here : goal.repeat_turns-requires-clause-here
repeat_turns-requires-clause-here g c = ap (λ w. w.place) (c.in-Some.ensures.point ∙ c.in_ok-point.ensures.walk)

pub repeat_turns-requires-clause-to : goal.repeat_turns-requires-clause-to
repeat_turns-requires-clause-to g c = omega (arith, c.in-Some.ensures.end.1, ap (λ w. w.place) c.in_ok-point.ensures.walk)

pub returns-clause-below : goal.returns-clause-below
returns-clause-below g c =
    let here = ap (λ w. w.place) (c.in-Some.ensures.point ∙ c.in_ok-point.ensures.walk) in
    let past = c.in_ok-turns.ensures.turns (omega (arith, c.if-turns-eq0.false)) in
    let before = past.before in
    omega (arith, before, here)

pub returns-clause-turns : goal.returns-clause-turns
returns-clause-turns g c =
    let program = c.args.program.now.listing in
    let here = ap (λ w. w.place) (c.in-Some.ensures.point ∙ c.in_ok-point.ensures.walk) in
    let later = ap (λ w. w.place) c.in-Some.ensures.later in
    let past = c.in_ok-turns.ensures.turns (omega (arith, c.if-turns-eq0.false)) in
    let before = past.before in
    let lines = reverse-reverse (lines_between program c.args.at.now.walk.place c.args.later.walk.place) in
    record {
      turns = record {
        program_is = c.requires.store;
        before = omega (arith, before, here, c.place-2.ensures, c.place-place.ensures);
        far = past.far;
        lines =
            ap₂ (lines_between program) c.place-2.ensures (c.place-place.ensures ∙ sym here)
            ∙ (past.lines
            ∙ ap (turn_lines _ _ _)
            (ap₂ (lines_between program) here later ∙ (sym lines ∙ ap (reverse {A = ErrorLine}) (sym c.requires.lines))));
      };
      start_is = c.place-2.ensures;
      below = omega (arith, c.requires.earlier, c.place-place.ensures);
    }
