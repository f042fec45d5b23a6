use Rattle.std.proofs.Common.{◌-◌, refl, ap, sym, ◌∙◌}
use Rattle.cursor.specs.declared.cursor.Cursor.{Cursor}
use Rattle.cursor.proofs.CursorBack.{passes_other_back}
use Rattle.cursor.proofs.cursor.Cursor.go_back_to_instruction.Goals as goal

pub returns-then-is_chosen-clause-found : goal.returns-then-is_chosen-clause-found
returns-then-is_chosen-clause-found g c =
    λ found. (c.in-Does.ensures.0, c.in-Does.ensures.1, ap (λ o. g.C.Choice.chosen o) c.in-Does.ensures.2 ∙ sym c.is_chosen.ensures ∙ c.if-is_chosen.true)

pub loop-self-preserved-in-Does : goal.loop-self-preserved-in-Does
loop-self-preserved-in-Does g c =
    let next : Cursor = record { index = c.loop-self.self.index - 1; «open» = c.loop-self.self.open } in
    let m = passes_other_back _ c.args.items.now.items c.loop-self.self next c.loop-self.fresh c.loop-self-test.true
    (c.in-Does.ensures.0, c.in-Does.ensures.1, ap (λ o. g.C.Choice.chosen o) c.in-Does.ensures.2 ∙ sym c.is_chosen.ensures ∙ c.if-is_chosen.false)
    c.loop-self.invariant.returning refl refl in
    record { returning = m.returning; same = cc (m.same, c.loop-self.invariant.same) }
