use Rattle.std.proofs.Common.{◌≡◌, ◌+◌, ◌*◌, ◌/◌, ◌%◌, length, arith, ap, ◌∙◌, sym, refl}
use Rattle.bit_rows.specs.private.WordTotals.{ones_of, common_ones, word_ones}
use Rattle.bit_rows.proofs.Carries.{ones_of-zeros, common_ones-zero, word_ones-zero, fold_more, fold-xor}
use Rattle.bit_rows.proofs.parity.fold_blocks.Goals as goal

pub loop-block-init : goal.loop-block-init
loop-block-init c = ap (λ s. s % 2) (ones_of-zeros 8 8 ∙ sym (common_ones-zero c.args.first.now c.args.second.now))

pub loop-block-preserved : goal.loop-block-preserved
loop-block-preserved c =
    let next : c.loop-block.block * 8 + 8 ≡ (c.loop-block.block + 1) * 8 = omega arith in
    ap (λ lanes. ones_of lanes 8 % 2) c.fold_block-odd.ensures
    ∙ fold_more c.args.first.now c.args.second.now c.loop-block.odd (c.loop-block.block * 8) (omega arith) (omega arith) c.loop-block.auto.odd.0 c.loop-block.invariant
    ∙ ap (λ n. common_ones c.args.first.now c.args.second.now n % 2) next

pub returns : goal.returns
returns c =
    let end : c.loop-block.block * 8 ≡ length c.args.first.now / 8 * 8 = omega arith in
    let lanes = fold-xor _ (λ a b. refl) 0 c.loop-block.odd in
    lanes
    ∙ ap (λ s. s % 2) (let e : word_ones 0 + ones_of c.loop-block.odd (length c.loop-block.odd) ≡ ones_of c.loop-block.odd (length c.loop-block.odd) = omega (arith, word_ones-zero) in e ∙ ap (ones_of c.loop-block.odd) c.loop-block.auto.odd.0)
    ∙ c.loop-block.invariant
    ∙ ap (λ n. common_ones c.args.first.now c.args.second.now n % 2) end
