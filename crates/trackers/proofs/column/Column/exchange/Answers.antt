use Rattle.std.proofs.Common.{map, ap, ap₂, ◌∙◌}
use Rattle.pauli_word.specs.declared.letter.Letter.TheVariants.{X, Z}
use Rattle.pauli_word.specs.Bits.{letters_of}
use Rattle.trackers.specs.private.Transposed.{combined}
use Rattle.trackers.proofs.MultiplyLemmas.{exchanged_rows}
use Rattle.trackers.proofs.column.Column.exchange.Goals as goal

pub returns : goal.returns
returns g c =
    let bits = g.S.TargetSet.bits in
    ap₂ (λ x z. letters_of (bits x) (bits z)) c.swap.ensures.x_after c.swap.ensures.y_after
    ∙ (exchanged_rows (bits c.self.inside.x) (bits c.self.inside.z) c.self.invariant ∙ ap (map (combined Z X)) c.self.view_is)
