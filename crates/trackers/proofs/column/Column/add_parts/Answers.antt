use Rattle.std.proofs.Common.{ap, ap₂, sym, ◌∙◌}
use Rattle.std.proofs.lemmas.Result.{on_ok_weaker}
use Rattle.trackers.specs.private.Transposed.{xor_where}
use Rattle.trackers.proofs.ColumnLemmas.{rows_long}
use Rattle.trackers.proofs.KeptLemmas.{bits_of_column}
use Rattle.trackers.proofs.column.Column.add_parts.Goals as goal

pub add_where-requires-clause-other : goal.add_where-requires-clause-other
add_where-requires-clause-other g c =
    let bits = g.S.TargetSet.bits in
    c.requires.set ∙ rows_long (bits c.self.inside.x) (bits c.self.inside.z) c.args.self.now c.self.invariant c.self.view_is

pub add_where-requires-2-clause-other : goal.add_where-requires-2-clause-other
add_where-requires-2-clause-other g c =
    let bits = g.S.TargetSet.bits in
    c.add_where.ensures.len ∙ (c.requires.set ∙ (rows_long (bits c.self.inside.x) (bits c.self.inside.z) c.args.self.now c.self.invariant c.self.view_is ∙ c.self.invariant))

pub returns-clause-ok : goal.returns-clause-ok
returns-clause-ok g c =
    let bits = g.S.TargetSet.bits in
    let column = bits_of_column (bits c.self.inside.x) (bits c.self.inside.z) c.args.self.now c.self.invariant c.self.view_is in
    on_ok_weaker c.add_where-2.result
    (λ last. last
    ∙ ap₂ (xor_where c.args.z) (c.in_ok-add_where.ensures.sum ∙ ap (xor_where c.args.x (bits c.args.set.now)) (sym column.0)) (sym column.1))
    c.add_where-2.ensures.sum
