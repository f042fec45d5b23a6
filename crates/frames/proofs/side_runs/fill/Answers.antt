-- Word by word.
use Rattle.std.proofs.Common.{◌≡◌, ℕ, ◌<◌, false, get_or, length-set, refl, ◌∙◌, arith}
use Rattle.bit_rows.specs.Lanes.{lane_bit}
use Rattle.frames.specs.private.Followers.{shown_by}
use Rattle.frames.proofs.ShownLemmas.{filled_more}
use Rattle.frames.proofs.side_runs.fill.Goals as goal

pub loop-index-init : goal.loop-index-init
loop-index-init g c = record { size = refl; filled = λ i below. absurd (omega arith) }

pub word-requires : goal.word-requires
word-requires g c = omega (arith, c.loop-index.invariant.size, c.requires)

pub loop-index-preserved : goal.loop-index-preserved
loop-index-preserved g c =
    record {
      size = length-set _ _ _ ∙ c.loop-index.invariant.size;
      filled =
          filled_more (λ i w. (j : ℕ) → j < 64 → lane_bit j w ≡ get_or (shown_by j c.args.follower.now) i false) c.loop-index.words c.loop-index.index c.word.result
          (omega (arith, c.loop-index.invariant.size)) c.loop-index.invariant.filled c.word.ensures;
    }

pub returns : goal.returns
returns g c =
    record {
      size = c.loop-index.invariant.size;
      filled = λ i below. c.loop-index.invariant.filled i (omega (arith, below));
    }
