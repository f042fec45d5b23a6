-- Each of them leaves what is left as it is.
use Rattle.std.proofs.Common.{◌+◌, refl, ◌∙◌, arith}
use Rattle.std.proofs.lemmas.Option.{slice_get_within}
use Rattle.cursor.specs.declared.cursor.Cursor.{Cursor}
use Rattle.cursor.proofs.CursorMoves.{passes_other}
use Rattle.cursor.proofs.cursor.Cursor.pass_others.Goals as goal

pub overflow_add-index : goal.overflow_add-index
overflow_add-index g c =
    omega (arith, slice_get_within c.args.items.now.items c.args.self.now.index _ c.requires.other.1, c.requires.few)

pub loop-index-init : goal.loop-index-init
loop-index-init g c =
    record { passes = passes_other _ c.args.items.now.items c.args.self.now (record c.args.self.now { index = c.args.self.now.index + 1 }) c.args.fresh c.requires.other c.requires.passing refl refl }

pub loop-index-preserved : goal.loop-index-preserved
loop-index-preserved g c =
    let self = c.args.self.now in
    let passes = c.loop-index.invariant.passes in
    let here : Cursor = record self { index = c.loop-index.index } in
    let next : Cursor = record self { index = c.loop-index.index + 1 } in
    let m = passes_other _ c.args.items.now.items here next c.args.fresh (c.is_other.ensures c.if-is_other.true) passes.passing refl refl in
    record { passes = record { passing = m.passing; same = m.same ∙ passes.same; nearer = omega (arith, m.nearer, passes.nearer) } }
