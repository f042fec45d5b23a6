use Rattle.std.proofs.Common.{ap₂, sym, ◌∙◌}
use Rattle.std.proofs.Math.Bool.{beq}
use Rattle.pauli_word.proofs.BitWords.{AreSeen, rows_length, commuting_rows}
use Rattle.pauli_word.proofs.word.Word.commutes.Goals as goal

pub and_parity-requires : goal.and_parity-requires
and_parity-requires g c =
    let s : AreSeen c.self.inside.x c.self.inside.z c.self.inside.negative c.args.self.now c.other.inside.x c.other.inside.z c.other.inside.negative c.args.other.now =
    record { first_rows = c.self.invariant; second_rows = c.other.invariant; first = c.self.view_is; second = c.other.view_is; lengths = c.requires } in
    sym (sym c.other.invariant ∙ rows_length c.self.inside.x c.self.inside.z c.self.inside.negative c.args.self.now c.other.inside.x c.other.inside.z c.other.inside.negative c.args.other.now s)

pub and_parity-requires-2 : goal.and_parity-requires-2
and_parity-requires-2 g c =
    let s : AreSeen c.self.inside.x c.self.inside.z c.self.inside.negative c.args.self.now c.other.inside.x c.other.inside.z c.other.inside.negative c.args.other.now =
    record { first_rows = c.self.invariant; second_rows = c.other.invariant; first = c.self.view_is; second = c.other.view_is; lengths = c.requires } in
    sym c.self.invariant ∙ sym (rows_length c.self.inside.x c.self.inside.z c.self.inside.negative c.args.self.now c.other.inside.x c.other.inside.z c.other.inside.negative c.args.other.now s)

pub returns : goal.returns
returns g c =
    let s : AreSeen c.self.inside.x c.self.inside.z c.self.inside.negative c.args.self.now c.other.inside.x c.other.inside.z c.other.inside.negative c.args.other.now =
    record { first_rows = c.self.invariant; second_rows = c.other.invariant; first = c.self.view_is; second = c.other.view_is; lengths = c.requires } in
    ap₂ beq c.and_parity.ensures c.and_parity-2.ensures
    ∙ commuting_rows c.self.inside.x c.self.inside.z c.self.inside.negative c.args.self.now c.other.inside.x c.other.inside.z c.other.inside.negative c.args.other.now s
