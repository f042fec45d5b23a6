-- The next item is a chosen instruction: the cursor stays before it.
use Rattle.std.proofs.Common.{refl}
use Rattle.cursor.proofs.CursorMoves.{faces}
use Rattle.cursor.proofs.cursor.Cursor.face.Goals as goal

pub returns-then-is_chosen_at : goal.returns-then-is_chosen_at
returns-then-is_chosen_at g c =
    let old = c.args.self.now in
    let t = faces _ c.args.items.now.items old old c.requires (record { place = c.requires.place; same = refl }) (c.is_chosen_at.ensures c.if-is_chosen_at.true) in
    record { place = t.0; same = t.1; next = t.2; here = refl }
