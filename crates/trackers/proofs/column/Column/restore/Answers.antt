use Rattle.std.proofs.Common.{◌<◌, ap, ap₂, subst, sym, ◌∙◌}
use Rattle.std.specs.Prelude.{All}
use Rattle.std.proofs.lemmas.Result.{on_ok_weaker}
use Rattle.pauli_word.specs.Bits.{letters_of}
use Rattle.pauli_word.proofs.BitWords.{length-letters_of}
use Rattle.step_model.specs.TargetSets.{row_of_set}
use Rattle.trackers.proofs.ColumnLemmas.{rows_long}
use Rattle.trackers.proofs.column.Column.restore.Goals as goal

pub make_set-requires : goal.make_set-requires
make_set-requires g c =
    let bits = g.S.TargetSet.bits in
    let here = rows_long (bits c.self.inside.x) (bits c.self.inside.z) c.args.self.now c.self.invariant c.self.view_is in
    subst (λ n. All (λ t. t < n) c.args.x.now) here c.requires.x

pub returns-in_err-make_set-clause-len : goal.returns-in_err-make_set-clause-len
returns-in_err-make_set-clause-len g c =
    let bits = g.S.TargetSet.bits in
    let here = rows_long (bits c.self.inside.x) (bits c.self.inside.z) c.args.self.now c.self.invariant c.self.view_is in
    length-letters_of (bits c.make_set.new.set) (bits c.self.inside.z) (c.make_set.ensures.len ∙ c.self.invariant) ∙ (c.make_set.ensures.len ∙ sym here)

pub make_set-requires-2 : goal.make_set-requires-2
make_set-requires-2 g c =
    let bits = g.S.TargetSet.bits in
    let here = rows_long (bits c.self.inside.x) (bits c.self.inside.z) c.args.self.now c.self.invariant c.self.view_is in
    subst (λ n. All (λ t. t < n) c.args.z.now) (here ∙ c.self.invariant) c.requires.z

pub returns-clause-ok : goal.returns-clause-ok
returns-clause-ok g c =
    let bits = g.S.TargetSet.bits in
    let here = rows_long (bits c.self.inside.x) (bits c.self.inside.z) c.args.self.now c.self.invariant c.self.view_is in
    on_ok_weaker c.make_set-2.result
    (λ last. ap₂ letters_of (c.in_ok-make_set.ensures.ok ∙ ap (λ n. row_of_set n c.args.x.now) (sym here)) (last ∙ ap (λ n. row_of_set n c.args.z.now) (sym (here ∙ c.self.invariant))))
    c.make_set-2.ensures.ok

pub returns-clause-len : goal.returns-clause-len
returns-clause-len g c =
    let bits = g.S.TargetSet.bits in
    let here = rows_long (bits c.self.inside.x) (bits c.self.inside.z) c.args.self.now c.self.invariant c.self.view_is in
    length-letters_of (bits c.make_set.new.set) (bits c.make_set-2.new.set) (c.make_set.ensures.len ∙ (c.self.invariant ∙ sym c.make_set-2.ensures.len)) ∙ (c.make_set.ensures.len ∙ sym here)
