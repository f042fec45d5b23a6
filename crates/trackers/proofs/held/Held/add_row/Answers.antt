use Rattle.std.proofs.Common.{◌≡◌, ap, sym, ◌∙◌, Ok, Err, OnOk}
use Rattle.bit_rows.specs.Rows.{xor_rows}
use Rattle.trackers.specs.private.Held.{bits_of}
use Rattle.trackers.proofs.MemberLists.{xor_rows_comm}
use Rattle.trackers.proofs.held.Held.add_row.Goals as goal

pub returns-in_ok-add_list-in-List-clause-ok : goal.returns-in_ok-add_list-in-List-clause-ok
returns-in_ok-add_list-in-List-clause-ok g c =
    let other = c.args.other.now in
    let list = c.in-List.list in
    let sum : bits_of c.settle.new.self ≡ xor_rows (bits_of c.args.self.now) other =
    c.settle.ensures
    ∙ (c.in_ok-add_list-in-List.ensures.ok
    ∙ (ap (λ row. xor_rows row list) c.in_ok-row-in-List.ensures ∙ (xor_rows_comm other list ∙ ap (λ held. xor_rows (bits_of held) other) (sym c.in-List.is)))) in
    elim c.settle.result as (λ r. OnOk r (bits_of c.settle.new.self ≡ xor_rows (bits_of c.args.self.now) other)) [ Ok v ↦ sum | Err e ↦ tt ]
