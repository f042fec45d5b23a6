use Rattle.std.proofs.Common.{◌<◌, length, refl, ap, ap₂, subst, sym, ◌∙◌}
use Rattle.std.specs.Prelude.{All}
use Rattle.std.proofs.lemmas.Result.{on_ok_weaker}
use Rattle.pauli_word.specs.Bits.{letters_of}
use Rattle.step_model.specs.TargetSets.{row_of_set}
use Rattle.trackers.specs.private.Transposed.{xor_where, times_each}
use Rattle.trackers.proofs.ColumnLemmas.{rows_long, stays_long}
use Rattle.trackers.proofs.TimesAll.{times_by_set}
use Rattle.trackers.proofs.column.Column.times_each.Goals as goal

pub toggle_where-requires-clause-targets : goal.toggle_where-requires-clause-targets
toggle_where-requires-clause-targets g c =
    let bits = g.S.TargetSet.bits in
    let here = rows_long (bits c.self.inside.x) (bits c.self.inside.z) c.args.self.now c.self.invariant c.self.view_is in
    subst (λ n. All (λ t. t < n) c.args.targets.now) here c.requires.targets

pub toggle_where-requires-clause-long : goal.toggle_where-requires-clause-long
toggle_where-requires-clause-long g c =
    let bits = g.S.TargetSet.bits in
    let here = rows_long (bits c.self.inside.x) (bits c.self.inside.z) c.args.self.now c.self.invariant c.self.view_is in
    record { made_long = c.requires.set ∙ here; spare_long = c.requires.spare ∙ here }

pub returns-in_err-toggle_where-clause-len : goal.returns-in_err-toggle_where-clause-len
returns-in_err-toggle_where-clause-len g c =
    stays_long (g.S.TargetSet.bits c.self.inside.x) (g.S.TargetSet.bits c.self.inside.z) (g.S.TargetSet.bits c.toggle_where.new.set) (g.S.TargetSet.bits c.self.inside.z) c.args.self.now c.self.invariant c.self.view_is c.toggle_where.ensures.len refl

pub toggle_where-requires-2-clause-targets : goal.toggle_where-requires-2-clause-targets
toggle_where-requires-2-clause-targets g c =
    let bits = g.S.TargetSet.bits in
    let here = rows_long (bits c.self.inside.x) (bits c.self.inside.z) c.args.self.now c.self.invariant c.self.view_is in
    subst (λ n. All (λ t. t < n) c.args.targets.now) (here ∙ c.self.invariant) c.requires.targets

pub toggle_where-requires-2-clause-long : goal.toggle_where-requires-2-clause-long
toggle_where-requires-2-clause-long g c =
    let bits = g.S.TargetSet.bits in
    let here = rows_long (bits c.self.inside.x) (bits c.self.inside.z) c.args.self.now c.self.invariant c.self.view_is in
    record {
      made_long = c.toggle_where.ensures.made ∙ (c.requires.set ∙ (here ∙ c.self.invariant));
      spare_long = c.toggle_where.ensures.spare ∙ (c.requires.spare ∙ (here ∙ c.self.invariant));
    }

pub returns-clause-len : goal.returns-clause-len
returns-clause-len g c =
    stays_long (g.S.TargetSet.bits c.self.inside.x) (g.S.TargetSet.bits c.self.inside.z) (g.S.TargetSet.bits c.toggle_where.new.set) (g.S.TargetSet.bits c.toggle_where-2.new.set) c.args.self.now c.self.invariant c.self.view_is c.toggle_where.ensures.len c.toggle_where-2.ensures.len

pub returns-clause-ok : goal.returns-clause-ok
returns-clause-ok g c =
    let bits = g.S.TargetSet.bits in
    let x = bits c.self.inside.x in
    let z = bits c.self.inside.z in
    let m = length x in
    let letter = c.args.letter in
    let targets = c.args.targets.now in
    let row = row_of_set m targets in
    let here = rows_long x z c.args.self.now c.self.invariant c.self.view_is in
    let fits = subst (λ n. All (λ t. t < n) targets) here c.requires.targets in
    on_ok_weaker c.toggle_where-2.result
    (λ last. ap₂ letters_of
    (c.in_ok-toggle_where.ensures.ok ∙ ap (λ b. xor_where b x row) c.has_x.ensures)
    (last ∙ ap₂ (λ b n. xor_where b z (row_of_set n targets)) c.has_z.ensures (sym c.self.invariant))
    ∙ (times_by_set letter targets m x z fits refl (sym c.self.invariant)
    ∙ ap (times_each letter targets) c.self.view_is))
    c.toggle_where-2.ensures.ok
