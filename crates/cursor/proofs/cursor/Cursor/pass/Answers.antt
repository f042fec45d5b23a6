use Rattle.std.proofs.Common.{◌+◌, refl, arith}
use Rattle.std.proofs.lemmas.Option.{slice_get_within}
use Rattle.stim_lexer.specs.Trees.{InstructionLine}
use Rattle.cursor.proofs.CursorMoves.{takes}
use Rattle.cursor.proofs.cursor.Cursor.pass.Goals as goal

pub overflow_add-self : goal.overflow_add-self
overflow_add-self g c =
    let x = c.requires.faces in
    omega (arith, slice_get_within c.args.items.now.items c.args.self.now.index (InstructionLine x.0) x.1, c.len-count.ensures)

pub returns : goal.returns
returns g c =
    let old = c.args.self.now in
    let t = takes _ c.args.items.now.items old old (record { index = old.index + 1; «open» = old.open }) c.requires.stands
    (record { place = c.requires.stands.place; same = refl }) c.requires.faces refl refl in
    record { place = t.0; over = t.1 }
