-- Byte by byte.
use Rattle.std.proofs.Common.{◌≡◌, ℕ, ◌+◌, ◌<◌, get_or, length-set, ◌∙◌, arith}
use Rattle.bit_rows.specs.Lanes.{lane_bit}
use Rattle.frames.proofs.ShownLemmas.{filled_more}
use Rattle.frames.proofs.lines.take_lanes.Goals as goal

pub loop-index-init : goal.loop-index-init
loop-index-init c = record { size = c.requires.size; lanes = λ i below. absurd (omega arith) }

pub loop-index-preserved : goal.loop-index-preserved
loop-index-preserved c =
    let words = c.args.words.now in
    record {
      size = length-set _ _ _ ∙ c.loop-index.invariant.size;
      lanes = filled_more (λ i octet. (j : ℕ) → j < 8 → lane_bit j octet ≡ lane_bit (c.args.first + j) (get_or words i 0)) c.loop-index.octets c.loop-index.index c.lanes_from.result
          (omega (arith, c.loop-index.invariant.size)) c.loop-index.invariant.lanes c.lanes_from.ensures;
    }

pub returns : goal.returns
returns c =
    record {
      size = c.loop-index.invariant.size;
      lanes = λ i below. c.loop-index.invariant.lanes i (omega (arith, below));
    }
