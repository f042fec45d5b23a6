use Rattle.std.proofs.Common.{false, length, ap, ap₂, sym, ◌∙◌}
use Rattle.std.specs.Prelude.{replicate}
use Rattle.pauli_word.specs.Bits.{letters_of}
use Rattle.pauli_word.specs.Words.{no_letters}
use Rattle.pauli_word.proofs.BitWords.{letters_of-zeros}
use Rattle.trackers.proofs.ColumnLemmas.{rows_long}
use Rattle.trackers.proofs.column.Column.clear.Goals as goal

pub returns : goal.returns
returns g c =
    let x = g.S.TargetSet.bits c.self.inside.x in
    let z = g.S.TargetSet.bits c.self.inside.z in
    ap₂ letters_of c.clear.ensures (c.clear-2.ensures ∙ ap (λ n. replicate n false) (sym c.self.invariant))
    ∙ (letters_of-zeros (length x) ∙ ap no_letters (sym (rows_long x z c.args.self.now c.self.invariant c.self.view_is)))
