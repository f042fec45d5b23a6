-- It is the instruction there.
use Rattle.std.proofs.Common.{◌≡◌, Bool, false, true, ap, refl, sym, ◌∙◌}
use Rattle.std.specs.Prelude.{not}
use Rattle.cursor.proofs.forward.is_other.Goals as goal

not_true : (b : Bool) → not b ≡ true → b ≡ false
not_true false h = refl
not_true true h = cc

pub returns-in-Does : goal.returns-in-Does
returns-in-Does g c = λ is.
    (c.in-Does.ensures.0, c.in-Does.ensures.1, ap (λ o. g.C.Choice.chosen o) c.in-Does.ensures.2 ∙ sym c.is_chosen.ensures ∙ not_true c.is_chosen.result is)
