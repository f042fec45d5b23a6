-- What was read stands there, or there are none.
use Rattle.std.proofs.Common.{List, ℤ, Option, [], ap, sym, ◌∙◌}
use Rattle.std.specs.Prelude.{unwrap_or}
use Rattle.std.proofs.lemmas.Bool.{MatchBool-at_false, MatchBool-at_true}
use Rattle.circuit_walk.proofs.coordinates.read_stated.Goals as goal

pub returns-then-put_coordinates : goal.returns-then-put_coordinates
returns-then-put_coordinates c =
    sym (ap (λ (o : Option (List ℤ)). unwrap_or o []) (MatchBool-at_true _ _ c.if-put_coordinates.true c.put_coordinates.ensures))

pub returns : goal.returns
returns c =
    c.clear.ensures
    ∙ sym (ap (λ (o : Option (List ℤ)). unwrap_or o []) (MatchBool-at_false _ _ c.if-put_coordinates.false c.put_coordinates.ensures))
