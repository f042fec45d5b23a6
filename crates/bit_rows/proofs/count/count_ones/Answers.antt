use Rattle.std.proofs.Common.{◌+◌, length, get_or, sym, ap, ◌∙◌, arith}
use Rattle.std.specs.Int.RustNames.{count_ones}
use Rattle.bit_rows.specs.private.WordTotals.{ones_of}
use Rattle.bit_rows.proofs.BitLaws.{ones_by_bits}
use Rattle.bit_rows.proofs.RowTotals.{ones_of-none, ones_of-more, ones_of-le}
use Rattle.bit_rows.proofs.count.count_ones.Goals as goal

pub loop-word-init : goal.loop-word-init
loop-word-init c = sym (ones_of-none c.args.words.now)

pub overflow_add-count : goal.overflow_add-count
overflow_add-count c =
    let words = c.args.words.now in
    let next = ones_of-more words c.loop-word.word-index in
    omega (arith, next, ones_of-le words (c.loop-word.word-index + 1) (length words) (omega (arith, c.loop-word-test.true)), c.loop-word.invariant, ones_by_bits (get_or words c.loop-word.word-index 0) (c.type_inv.words c.loop-word.word-index).fits, c.requires)

pub loop-word-preserved : goal.loop-word-preserved
loop-word-preserved c =
    let words = c.args.words.now in
    ap (λ n. n + count_ones (get_or words c.loop-word.word-index 0)) c.loop-word.invariant
    ∙ ap (λ n. ones_of words c.loop-word.word-index + n) (ones_by_bits (get_or words c.loop-word.word-index 0) (c.type_inv.words c.loop-word.word-index).fits)
    ∙ sym (ones_of-more words c.loop-word.word-index)
