use Rattle.std.proofs.Common.{◌≡◌, ◌%◌, arith, ap, ◌∙◌, eqb, length}
use Rattle.bit_rows.specs.private.WordTotals.{common_ones}
use Rattle.bit_rows.proofs.BitLaws.{ones_by_bits}
use Rattle.bit_rows.proofs.Carries.{odd_more}
use Rattle.bit_rows.proofs.parity.has_odd_common_ones.Goals as goal

pub loop-i-preserved : goal.loop-i-preserved
loop-i-preserved c = odd_more c.args.first.now c.args.second.now c.loop-i.odd c.loop-i.i c.loop-i.invariant

pub returns : goal.returns
returns c =
    let end : c.loop-i.i ≡ length c.args.first.now = omega arith in
    ap (λ v. eqb v 1)
    (ap (λ s. s % 2) (ones_by_bits c.loop-i.odd c.loop-i.auto.odd-fits.fits) ∙ c.loop-i.invariant ∙ ap (λ n. common_ones c.args.first.now c.args.second.now n % 2) end)
