use Rattle.std.proofs.Common.{◌≡◌, ◌+◌, ◌<◌, ◌≤◌, bit_xor, get_or, arith, ⊎_elim, ap, ◌∙◌, sym}
use Rattle.std.proofs.lemmas.Bool.{cases_lt}
use Rattle.std.proofs.lemmas.List.{get_or_past}
use Rattle.bit_rows.proofs.Blocks.{XorsWithin-join, XorsWithin-one}
use Rattle.bit_rows.proofs.xor.xor_words.Goals as goal

pub loop-i-preserved : goal.loop-i-preserved
loop-i-preserved c =
    XorsWithin-join c.args.first.now c.args.second.now c.loop-i.first _ 0 c.loop-i.i (c.loop-i.i + 1) (omega arith) (omega arith) c.loop-i.invariant
    (XorsWithin-one c.loop-i.first c.args.second.now c.loop-i.i (omega arith))

pub returns : goal.returns
returns c = λ k.
    ⊎_elim
    (λ (h : k < c.loop-i.i). c.loop-i.invariant.inside k (omega arith) h)
    (λ (h : c.loop-i.i ≤ k).
    let first : get_or c.args.first.now k 0 ≡ 0 = get_or_past c.args.first.now k 0 (omega arith) in
    let second : get_or c.args.second.now k 0 ≡ 0 = get_or_past c.args.second.now k 0 (omega arith) in
    c.loop-i.invariant.above k h ∙ first ∙ sym (ap (λ v. bit_xor v (get_or c.args.second.now k 0)) first ∙ ap (λ v. bit_xor 0 v) second))
    (cases_lt k c.loop-i.i)
