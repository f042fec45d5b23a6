use Rattle.std.proofs.Common.{ap, sym, ◌∙◌}
use Rattle.cursor.proofs.cursor.Cursor.go_to_instruction.Goals as goal

pub returns-then-is_chosen-clause-found : goal.returns-then-is_chosen-clause-found
returns-then-is_chosen-clause-found g c =
    λ found. (c.in-Does.ensures.0, c.in-Does.ensures.1, ap (λ o. g.C.Choice.chosen o) c.in-Does.ensures.2 ∙ sym c.is_chosen.ensures ∙ c.if-is_chosen.true)

pub pass_others-requires-clause-other : goal.pass_others-requires-clause-other
pass_others-requires-clause-other g c =
    (c.in-Does.ensures.0, c.in-Does.ensures.1, ap (λ o. g.C.Choice.chosen o) c.in-Does.ensures.2 ∙ sym c.is_chosen.ensures ∙ c.if-is_chosen.false)

pub loop-self-preserved-in-Does : goal.loop-self-preserved-in-Does
loop-self-preserved-in-Does g c = record { passing = c.pass_others.ensures.passing; same = c.pass_others.ensures.same ∙ c.loop-self.invariant.same }
