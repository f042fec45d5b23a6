use Rattle.std.proofs.Common.{ap, ◌∙◌, arith}
use Rattle.bit_rows.proofs.BitLaws.{lowest_bit}
use Rattle.bit_rows.proofs.LaneLaws.{lane_is_bit, lane_bit-zero}
use Rattle.bit_rows.specs.Lanes.{lane_bit}
use Rattle.bit_rows.proofs.lanes.first.Goals as goal

pub returns-then-word-eq0-clause-none : goal.returns-then-word-eq0-clause-none
returns-then-word-eq0-clause-none c = λ j below. ap (lane_bit j) c.if-word-eq0.true ∙ lane_bit-zero j

pub returns-clause-is_set : goal.returns-clause-is_set
returns-clause-is_set c =
    lane_is_bit _ c.args.word ∙ (lowest_bit c.args.word (omega (arith, c.if-word-eq0.false)) (omega (arith, c.ranges.word.fits))).1

pub returns-clause-before : goal.returns-clause-before
returns-clause-before c = λ j below.
    lane_is_bit j c.args.word ∙ (lowest_bit c.args.word (omega (arith, c.if-word-eq0.false)) (omega (arith, c.ranges.word.fits))).2 j below
