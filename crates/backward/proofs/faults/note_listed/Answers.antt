use Rattle.std.proofs.Common.{◌<◌, length, ap, subst, sym, ◌∙◌}
use Rattle.std.specs.Prelude.{All}
use Rattle.std.proofs.lemmas.Result.{on_ok_weaker}
use Rattle.step_model.specs.Chances.{chance_at}
use Rattle.step_model.specs.Targets.{targets_of}
use Rattle.backward.specs.private.Stretches.{Gives, line_for}
use Rattle.backward.proofs.PassPlaces.{hit_in_range}
use Rattle.backward.proofs.faults.note_listed.Goals as goal

pub note_line-requires-clause-named : goal.note_line-requires-clause-named
note_line-requires-clause-named g c =
    let program = c.args.program.now in
    subst (All (λ t. t < length (targets_of program.listing))) (sym (c.as_slice.ensures.value ∙ c.in_ok-hit.ensures.hit))
    (hit_in_range program.listing _ (g.T.Tracker.tracked c.args.tracker.now) c.requires.words)

pub returns-clause-lines : goal.returns-clause-lines
returns-clause-lines g c =
    let holds = g.L.LineStore.holds in
    on_ok_weaker c.note_line.result
    (subst (Gives (holds c.args.lines.now) (holds c.note_line.new.lines))
    (ap (line_for (chance_at c.args.program.now.chances c.args.chance).text) (c.as_slice.ensures.value ∙ c.in_ok-hit.ensures.hit)))
    c.note_line.ensures.lines
