use Rattle.std.proofs.Common.{◌-◌, refl}
use Rattle.cursor.proofs.CursorBack.{takes_back, takes_none_back}
use Rattle.cursor.proofs.cursor.Cursor.previous.Goals as goal

pub go_back_to_instruction-requires-clause-place : goal.go_back_to_instruction-requires-clause-place
go_back_to_instruction-requires-clause-place g c = c.requires.place

pub returns-then-not-go_back_to_instruction : goal.returns-then-not-go_back_to_instruction
returns-then-not-go_back_to_instruction g c =
    let t = takes_none_back _ c.args.items.now.items c.args.self.now c.go_back_to_instruction.new.self c.requires
    c.go_back_to_instruction.ensures.moved (c.go_back_to_instruction.ensures.start c.if-not-go_back_to_instruction.true) in
    record { place = t.0; over = t.1; here = _ }

pub returns : goal.returns
returns g c =
    let t = takes_back _ c.args.items.now.items c.args.self.now c.go_back_to_instruction.new.self
    (record { index = c.go_back_to_instruction.new.self.index - 1; «open» = c.go_back_to_instruction.new.self.open }) c.requires
    c.go_back_to_instruction.ensures.moved (c.go_back_to_instruction.ensures.inside c.if-not-go_back_to_instruction.false)
    (c.go_back_to_instruction.ensures.found c.if-not-go_back_to_instruction.false) refl refl in
    record { place = t.0; over = t.1; here = refl }
