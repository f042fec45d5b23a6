use Rattle.std.proofs.Common.{map, ap, ap₂, sym, ◌∙◌}
use Rattle.std.proofs.lemmas.Option.{IfSome_then}
use Rattle.bit_rows.specs.Rows.{xor_rows}
use Rattle.pauli_word.specs.declared.letter.Letter.TheVariants.{Y}
use Rattle.pauli_word.specs.Letters.{letters_clash}
use Rattle.step_model.specs.TargetSets.{members}
use Rattle.trackers.proofs.ColumnLemmas.{rows_long}
use Rattle.trackers.proofs.LoneTerms.{clashes_of_Y}
use Rattle.trackers.proofs.column.Column.sum_clashing_y.Goals as goal

pub sum_few_of_four-requires-clause-third : goal.sum_few_of_four-requires-clause-third
sum_few_of_four-requires-clause-third g c =
    let bits = g.S.TargetSet.bits in
    sym (rows_long (bits c.self.inside.x) (bits c.self.inside.z) c.args.self.now c.self.invariant c.self.view_is)
    ∙ (c.requires ∙ rows_long (bits c.other.inside.x) (bits c.other.inside.z) c.args.other.now c.other.invariant c.other.view_is)

pub sum_few_of_four-requires-clause-fourth : goal.sum_few_of_four-requires-clause-fourth
sum_few_of_four-requires-clause-fourth g c =
    let bits = g.S.TargetSet.bits in
    sym (rows_long (bits c.self.inside.x) (bits c.self.inside.z) c.args.self.now c.self.invariant c.self.view_is)
    ∙ (c.requires ∙ (rows_long (bits c.other.inside.x) (bits c.other.inside.z) c.args.other.now c.other.invariant c.other.view_is ∙ c.other.invariant))

pub returns-clause-sum : goal.returns-clause-sum
returns-clause-sum g c =
    let bits = g.S.TargetSet.bits in
    let own = clashes_of_Y (bits c.self.inside.x) (bits c.self.inside.z) c.self.invariant ∙ ap (map (letters_clash Y)) c.self.view_is in
    let others = clashes_of_Y (bits c.other.inside.x) (bits c.other.inside.z) c.other.invariant ∙ ap (map (letters_clash Y)) c.other.view_is in
    IfSome_then c.sum_few_of_four.result c.sum_few_of_four.ensures.sum (λ len h. h ∙ ap members (ap₂ xor_rows own others))
