use Rattle.std.proofs.Common.{refl}
use Rattle.cursor.proofs.CursorMoves.{faces, faces_none}
use Rattle.cursor.proofs.cursor.Cursor.face_far.Goals as goal

pub go_to_instruction-requires-clause-place : goal.go_to_instruction-requires-clause-place
go_to_instruction-requires-clause-place g c = c.requires.place

pub returns-then-not-go_to_instruction : goal.returns-then-not-go_to_instruction
returns-then-not-go_to_instruction g c =
    let t = faces_none _ c.args.items.now.items c.args.self.now c.go_to_instruction.new.self c.requires
    c.go_to_instruction.ensures.moved (c.go_to_instruction.ensures.end c.if-not-go_to_instruction.true) in
    record { place = t.0; same = t.1; next = t.2; here = _ }

pub returns : goal.returns
returns g c =
    let t = faces _ c.args.items.now.items c.args.self.now c.go_to_instruction.new.self c.requires
    c.go_to_instruction.ensures.moved (c.go_to_instruction.ensures.found c.if-not-go_to_instruction.false) in
    record { place = t.0; same = t.1; next = t.2; here = refl }
