use Rattle.std.proofs.Common.{◌≡◌, true, arith, sym, ◌∙◌, ◌*◌, ◌%◌, ◌^◌, ◌<◌, inl, inr, ⊎_elim}
use Rattle.std.proofs.lemmas.Bool.{or_cases}
use Rattle.bit_rows.specs.private.Words.{bit_of}
use Rattle.bit_rows.proofs.BitLaws.{bit_of-or, four_ones}
use Rattle.bit_rows.proofs.marks.mark_block_where.Goals as goal

pub returns : goal.returns
returns c = λ w h e.
    let four : c.args.block < 16 = c.if-block-ge16.false in
    ⊎_elim
    (λ (old : bit_of c.args.marks w ≡ true). inl old)
    (λ (new : bit_of (15 * 2 ^ (c.args.block * 4) % 2 ^ 64) w ≡ true).
    let within = four_ones (c.args.block * 4) w (omega (arith, four)) new in
    inr (omega (arith, within.0, within.1), c.if-not-condition.false))
    (or_cases (bit_of c.args.marks w) _ (sym (bit_of-or c.args.marks _ w) ∙ e))
