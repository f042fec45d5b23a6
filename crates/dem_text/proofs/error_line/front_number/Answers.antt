use Rattle.std.proofs.Common.{refl, arith}
use Rattle.dem_text.proofs.CountedLemmas.{digit_small, number-next}
use Rattle.dem_text.proofs.error_line.front_number.Goals as goal

pub loop-preserved : goal.loop-preserved
loop-preserved c =
    record {
      front = number-next _ _ _ _ _ c.in-Some.digit c.loop.invariant.front c.in-Some.ensures.text c.in-Some.ensures.digit refl;
      few = omega (arith, digit_small c.in-Some.digit c.in-Some.ensures.digit, c.if-number-gt-MOST_READ.false);
    }
