use Rattle.std.proofs.Common.{◌<◌, ◌≤◌, arith, subst, ⊎_elim, bit_and}
use Rattle.std.proofs.lemmas.Bool.{cases_lt, ltb-true}
use Rattle.bit_rows.proofs.BitLaws.{unset_below}
use Rattle.bit_rows.proofs.marks.is_unmarked.Goals as goal

pub returns : goal.returns
returns c = λ yes.
    let word = c.args.word in
    let small : bit_and c.args.marks c.mark_of-mark.result < c.mark_of-mark.result = ltb-true _ _ yes in
    ⊎_elim
    (λ (h : word < 64). (h, unset_below c.args.marks word (subst (λ m. bit_and c.args.marks m < m) (c.mark_of-mark.ensures.marked h) small)))
    (λ (h : 64 ≤ word). absurd (omega (arith, small, c.mark_of-mark.ensures.past h)))
    (cases_lt word 64)
