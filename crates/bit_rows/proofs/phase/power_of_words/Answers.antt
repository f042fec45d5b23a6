use Rattle.std.proofs.Common.{◌≡◌, ◌+◌, ◌%◌, arith, ap, ◌∙◌, length}
use Rattle.bit_rows.specs.private.WordTotals.{carried, words_phase}
use Rattle.bit_rows.proofs.Carries.{power_more, carried_after, carried-zero}
use Rattle.bit_rows.proofs.phase.power_of_words.Goals as goal

pub loop-i-init : goal.loop-i-init
loop-i-init c = omega (arith, carried-zero, c.power_of_blocks-before.ensures)

pub loop-i-preserved : goal.loop-i-preserved
loop-i-preserved c =
    power_more c.args.xa.now c.args.za.now c.args.xb.now c.args.zb.now (c.power_of_blocks-before.result + carried c.loop-i.ones c.loop-i.twos) _ c.loop-i.i c.loop-i.invariant
    (carried_after c.power_of_blocks-before.result _ _ _ c.carry.ensures)

pub returns : goal.returns
returns c =
    let end : c.loop-i.i ≡ length c.args.xa.now = omega arith in
    ap (λ s. (c.power_of_blocks-before.result + s) % 4) c.power_held.ensures.value ∙ c.loop-i.invariant
    ∙ ap (λ n. words_phase c.args.xa.now c.args.za.now c.args.xb.now c.args.zb.now n % 4) end
