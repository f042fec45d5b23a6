use Rattle.std.proofs.Common.{map, ap₂, ◌∙◌}
use Rattle.std.proofs.lemmas.Result.{on_ok_weaker}
use Rattle.pauli_word.specs.Bits.{x_bit, z_bit}
use Rattle.trackers.specs.private.Transposed.{xor_where}
use Rattle.trackers.proofs.ColumnLemmas.{clashes_of_letters}
use Rattle.trackers.proofs.column.Column.toggle_clashing.Goals as goal

pub returns-clause-ok : goal.returns-clause-ok
returns-clause-ok g c =
    let set = g.S.TargetSet.bits c.args.set.now in
    let column = c.args.self.now in
    on_ok_weaker c.add_parts.result
    (λ sum. sum
    ∙ (ap₂ (λ x z. xor_where z (xor_where x set (map x_bit column)) (map z_bit column)) c.has_z.ensures c.has_x.ensures
    ∙ clashes_of_letters c.args.letter set column c.requires.set))
    c.add_parts.ensures.ok
