use Rattle.std.proofs.Common.{map, ap₂, sym, ◌∙◌}
use Rattle.trackers.specs.private.Transposed.{combined}
use Rattle.trackers.proofs.MultiplyLemmas.{kept-letters}
use Rattle.trackers.proofs.column.Column.become_image.Goals as goal

pub returns-in-X-Z-clause-ok : goal.returns-in-X-Z-clause-ok
returns-in-X-Z-clause-ok g c =
    let column = c.args.self.now in
    sym (ap₂ (λ x z. map (combined x z) column) c.in-X-Z.is-0 c.in-X-Z.is-1 ∙ kept-letters column)
