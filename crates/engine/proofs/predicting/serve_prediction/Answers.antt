use Rattle.std.proofs.Common.{List, ℕ, sym, subst}
use Rattle.forward_sim.specs.Listed.{IsListOf}
use Rattle.engine.proofs.predicting.serve_prediction.Goals as goal

pub returns-in-Some : goal.returns-in-Some
returns-in-Some g c =
    let list = rw c.in-Some.is at c.in_ok-numbers.ensures in
    c.serve_listed.ensures c.args.lines.now (subst (λ (numbers : List ℕ). IsListOf c.args.lines.now numbers) (sym c.as_slice.ensures.value) list)

pub returns-in-None : goal.returns-in-None
returns-in-None g c = c.serve_listed-in-None.ensures c.args.lines.now (rw c.in-None.is at c.in_ok-numbers.ensures)
