use Rattle.std.proofs.Common.{refl, sym, ◌∙◌}
use Rattle.forward_sim.proofs.machine.Machine.with_turns.Goals as goal

pub returns-clause-run : goal.returns-clause-run
returns-clause-run g c =
    record { state = λ p h. c.in_ok-tableau.ensures.state p (h ∙ sym c.in_ok-tableau.ensures.len); coins = refl; records = c.in_ok-records.ensures.items }
