use Rattle.std.proofs.Common.{map, ap, sym, ◌∙◌}
use Rattle.pauli_word.specs.declared.letter.Letter.TheVariants.{X, Z}
use Rattle.pauli_word.specs.Letters.{letters_clash}
use Rattle.trackers.proofs.LoneTerms.{clashes_of_X, clashes_of_Z}
use Rattle.trackers.proofs.column.Column.kept_clashing.Goals as goal

pub returns-then-is_x : goal.returns-then-is_x
returns-then-is_x g c =
    let bits = g.S.TargetSet.bits in
    clashes_of_X (bits c.self.inside.x) (bits c.self.inside.z) c.self.invariant
    ∙ (ap (map (letters_clash X)) c.self.view_is
    ∙ ap (λ letter. map (letters_clash letter) c.args.self.now) (sym (c.is_x.ensures c.if-is_x.true)))

pub returns-then-is_z : goal.returns-then-is_z
returns-then-is_z g c =
    let bits = g.S.TargetSet.bits in
    clashes_of_Z (bits c.self.inside.x) (bits c.self.inside.z) c.self.invariant
    ∙ (ap (map (letters_clash Z)) c.self.view_is
    ∙ ap (λ letter. map (letters_clash letter) c.args.self.now) (sym (c.is_z.ensures c.if-is_z.true)))
