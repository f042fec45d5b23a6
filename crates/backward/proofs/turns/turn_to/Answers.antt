use Rattle.std.proofs.Common.{ap, subst, sym}
use Rattle.std.specs.Prelude.{not}
use Rattle.circuit_walk.specs.Turns.{AreFedFrom}
use Rattle.backward.specs.private.Passes.{records_before}
use Rattle.backward.proofs.turns.turn_to.Goals as goal

pub returns-clause-turn : goal.returns-clause-turn
returns-clause-turn g c =
    let e = c.in_ok-earlier.ensures in
    let program = c.args.walk.now.program.listing in
    let to = c.args.walk.now.place in
    record {
      own = subst (λ k. AreFedFrom program.steps (records_before program k) k to) (sym c.place-place.ensures) e.own;
      none = λ is low. subst (λ k. AreFedFrom program.steps low k to) (sym c.place-place.ensures) (e.none (ap not is) low);
    }
