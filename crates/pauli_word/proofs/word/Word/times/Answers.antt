use Rattle.std.proofs.Common.{ap, ap₂, sym, not, leb, ◌∙◌}
use Rattle.std.proofs.Math.Bool.{beq}
use Rattle.pauli_word.proofs.BitWords.{AreSeen, seen, rows_length, minus_of_seen, product_of_seen}
use Rattle.pauli_word.proofs.word.Word.times.Goals as goal

pub multiply-power-requires-clause-xb : goal.multiply-power-requires-clause-xb
multiply-power-requires-clause-xb g c =
    let s : AreSeen c.self.inside.x c.self.inside.z c.self.inside.negative c.args.self.now c.other.inside.x c.other.inside.z c.other.inside.negative c.args.other.now =
    record { first_rows = c.self.invariant; second_rows = c.other.invariant; first = c.self.view_is; second = c.other.view_is; lengths = c.requires } in
    rows_length c.self.inside.x c.self.inside.z c.self.inside.negative c.args.self.now c.other.inside.x c.other.inside.z c.other.inside.negative c.args.other.now s

pub multiply-power-requires-clause-zb : goal.multiply-power-requires-clause-zb
multiply-power-requires-clause-zb g c =
    let s : AreSeen c.self.inside.x c.self.inside.z c.self.inside.negative c.args.self.now c.other.inside.x c.other.inside.z c.other.inside.negative c.args.other.now =
    record { first_rows = c.self.invariant; second_rows = c.other.invariant; first = c.self.view_is; second = c.other.view_is; lengths = c.requires } in
    sym c.other.invariant ∙ rows_length c.self.inside.x c.self.inside.z c.self.inside.negative c.args.self.now c.other.inside.x c.other.inside.z c.other.inside.negative c.args.other.now s

pub invariant_of-self : goal.invariant_of-self
invariant_of-self g c = c.multiply-power.ensures.x_len ∙ (c.self.invariant ∙ sym c.multiply-power.ensures.z_len)

pub returns-clause-product : goal.returns-clause-product
returns-clause-product g c =
    let s : AreSeen c.self.inside.x c.self.inside.z c.self.inside.negative c.args.self.now c.other.inside.x c.other.inside.z c.other.inside.negative c.args.other.now =
    record { first_rows = c.self.invariant; second_rows = c.other.invariant; first = c.self.view_is; second = c.other.view_is; lengths = c.requires } in
    let minus = ap (leb 2) c.multiply-power.ensures.power ∙ minus_of_seen c.self.inside.x c.self.inside.z c.self.inside.negative c.args.self.now c.other.inside.x c.other.inside.z c.other.inside.negative c.args.other.now s in
    ap₂ (λ x z. seen x z (not (beq (not (beq c.self.inside.negative c.other.inside.negative)) (leb 2 c.multiply-power.result)))) c.multiply-power.ensures.x c.multiply-power.ensures.z
    ∙ product_of_seen c.self.inside.x c.self.inside.z c.self.inside.negative c.args.self.now c.other.inside.x c.other.inside.z c.other.inside.negative c.args.other.now (leb 2 c.multiply-power.result) s minus

pub returns-clause-brings_minus : goal.returns-clause-brings_minus
returns-clause-brings_minus g c =
    let s : AreSeen c.self.inside.x c.self.inside.z c.self.inside.negative c.args.self.now c.other.inside.x c.other.inside.z c.other.inside.negative c.args.other.now =
    record { first_rows = c.self.invariant; second_rows = c.other.invariant; first = c.self.view_is; second = c.other.view_is; lengths = c.requires } in
    ap (leb 2) c.multiply-power.ensures.power ∙ minus_of_seen c.self.inside.x c.self.inside.z c.self.inside.negative c.args.self.now c.other.inside.x c.other.inside.z c.other.inside.negative c.args.other.now s
