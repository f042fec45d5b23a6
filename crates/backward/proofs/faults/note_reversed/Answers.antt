use Rattle.std.proofs.Common.{sym, subst, ◌∙◌}
use Rattle.std.proofs.lemmas.Result.{on_ok_weaker}
use Rattle.step_model.specs.Chances.{chance_at}
use Rattle.backward.specs.private.Stretches.{Gives}
use Rattle.backward.proofs.LentHits.{gives_none, line_for_reversed}
use Rattle.backward.proofs.faults.note_reversed.Goals as goal

pub returns-then-is_empty-clause-lines : goal.returns-then-is_empty-clause-lines
returns-then-is_empty-clause-lines g c =
    let lines = c.args.lines.now in
    gives_none (g.L.LineStore.holds lines) (chance_at (g.L.LineStore.program lines).chances c.args.chance).text c.args.targets.now (sym c.is_empty.ensures ∙ c.if-is_empty.true)

pub returns-else-is_empty-clause-lines : goal.returns-else-is_empty-clause-lines
returns-else-is_empty-clause-lines g c =
    let holds = g.L.LineStore.holds in
    let text = (chance_at (g.L.LineStore.program c.args.lines.now).chances c.args.chance).text in
    on_ok_weaker c.give_reversed.result
    (subst (Gives (holds c.args.lines.now) (holds c.give_reversed.new.self)) (line_for_reversed text c.args.targets.now (sym c.is_empty.ensures ∙ c.if-is_empty.false)))
    c.give_reversed.ensures.holds
