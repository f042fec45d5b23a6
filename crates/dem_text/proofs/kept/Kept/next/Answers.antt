use Rattle.std.proofs.Common.{true, List, subst}
use Rattle.cursor.specs.Moves.{GoesOver}
use Rattle.dem_text.specs.Texts.{Item}
use Rattle.dem_text.proofs.kept.Kept.next.Goals as goal

pub returns-clause-over : goal.returns-clause-over
returns-clause-over g c =
    subst (λ (is : List Item). GoesOver (λ i. true) is c.args.cursor.now c.next.new.self c.next.result) c.self.view_is c.next.ensures.over
