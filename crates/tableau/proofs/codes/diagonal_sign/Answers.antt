use Rattle.std.proofs.Common.{sym, ◌∙◌}
use Rattle.tableau.proofs.codes.diagonal_sign.Goals as goal

pub returns-in-None : goal.returns-in-None
returns-in-None g c = record { lowest = sym c.lowest_x_or_y.ensures ∙ c.in-None.is; sign = c.sign.ensures }
