use Rattle.std.proofs.Common.{map, refl, ap, ◌∙◌}
use Rattle.std.proofs.lemmas.Result.{on_ok_weaker}
use Rattle.pauli_word.specs.declared.letter.Letter.TheVariants.{X, Y}
use Rattle.pauli_word.specs.Bits.{letters_of}
use Rattle.trackers.specs.private.Transposed.{combined}
use Rattle.trackers.proofs.ColumnLemmas.{rows_long, stays_long}
use Rattle.trackers.proofs.MultiplyLemmas.{x_added_rows}
use Rattle.trackers.proofs.column.Column.add_z_to_x.Goals as goal

pub add-requires-clause-spare : goal.add-requires-clause-spare
add-requires-clause-spare g c =
    let bits = g.S.TargetSet.bits in
    let here = rows_long (bits c.self.inside.x) (bits c.self.inside.z) c.args.self.now c.self.invariant c.self.view_is in
    c.requires ∙ here

pub returns-clause-len : goal.returns-clause-len
returns-clause-len g c =
    stays_long (g.S.TargetSet.bits c.self.inside.x) (g.S.TargetSet.bits c.self.inside.z) (g.S.TargetSet.bits c.add.new.self) (g.S.TargetSet.bits c.self.inside.z) c.args.self.now c.self.invariant c.self.view_is c.add.ensures.len refl

pub returns-clause-ok : goal.returns-clause-ok
returns-clause-ok g c =
    let bits = g.S.TargetSet.bits in
    let sx = bits c.self.inside.x in
    let sz = bits c.self.inside.z in
    on_ok_weaker c.add.result
    (λ sum. ap (λ p. letters_of p sz) sum ∙ (x_added_rows sx sz c.self.invariant ∙ ap (map (combined X Y)) c.self.view_is))
    c.add.ensures.ok
