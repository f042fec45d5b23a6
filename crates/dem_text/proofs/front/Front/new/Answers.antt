use Rattle.std.proofs.Common.{refl, arith}
use Rattle.dem_text.specs.Reached.{block_lines}
use Rattle.dem_text.proofs.MakingLemmas.{making-none}
use Rattle.dem_text.proofs.front.Front.new.Goals as goal

pub returns-clause-read : goal.returns-clause-read
unfolding block_lines
returns-clause-read g c =
    record { making = making-none 0; read_is = refl; unrolled_is = refl; follows = λ few. c.in_ok-new.ensures.follows }

pub returns-clause-ready : goal.returns-clause-ready
returns-clause-ready g c = record { sound = c.in_ok-new.ensures.sound; few = omega (arith, c.in_ok-new.ensures.passed); capped = omega arith }
