use Rattle.std.proofs.Common.{ap₂, ◌+◌, ◌∙◌, arith}
use Rattle.std.proofs.lemmas.List.Sums.{count_by-le-length}
use Rattle.trackers.proofs.ColumnLemmas.{rows_long}
use Rattle.trackers.proofs.CountLemmas.{bits_counted}
use Rattle.trackers.proofs.column.Column.letter_count.Goals as goal

pub overflow_add-result : goal.overflow_add-result
overflow_add-result g c =
    let bits = g.S.TargetSet.bits in
    let x = bits c.self.inside.x in
    let z = bits c.self.inside.z in
    omega (arith, c.count.ensures, c.count-2.ensures, count_by-le-length (λ b. b) x, count_by-le-length (λ b. b) z, c.self.invariant, rows_long x z c.args.self.now c.self.invariant c.self.view_is, c.requires)

pub returns : goal.returns
returns g c =
    let bits = g.S.TargetSet.bits in
    let counted = bits_counted (bits c.self.inside.x) (bits c.self.inside.z) c.args.self.now c.self.invariant c.self.view_is in
    ap₂ (λ a b. a + b) (c.count.ensures ∙ counted.0) (c.count-2.ensures ∙ counted.1)
