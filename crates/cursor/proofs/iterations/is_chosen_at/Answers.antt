use Rattle.std.proofs.Common.{ap, sym, ◌∙◌}
use Rattle.cursor.proofs.iterations.is_chosen_at.Goals as goal

pub returns-in-Does : goal.returns-in-Does
returns-in-Does g c =
    λ found. (c.in-Does.ensures.0, c.in-Does.ensures.1, ap (λ o. g.C.Choice.chosen o) c.in-Does.ensures.2 ∙ sym c.is_chosen.ensures ∙ found)
