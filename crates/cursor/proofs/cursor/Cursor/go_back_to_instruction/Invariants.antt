use Rattle.std.proofs.Common.{◌≡◌}
use Rattle.cursor.specs.Places.{left_of, levels_of}
use Rattle.cursor.specs.private.Backward.{IsReturning, rest_before}
use Rattle.cursor.proofs.cursor.Cursor.go_back_to_instruction.Given as goal

abbrev pub invariant-loop-self : goal.invariant-loop-self
invariant-loop-self g l =
    record {
      returning : IsReturning (λ i. g.C.Choice.chosen i.operation) l.items.items l.self.index (levels_of l.self) l.fresh;
      same : left_of (λ i. g.C.Choice.chosen i.operation) l.items.items l.self ≡ left_of (λ i. g.C.Choice.chosen i.operation) l.items.items l.initial.self;
    }

abbrev pub decreases-loop-self : goal.decreases-loop-self
decreases-loop-self g l = rest_before l.items.items l.self.index (levels_of l.self) l.fresh
