use Rattle.std.proofs.Common.{◌≤◌, ◌+◌, vec_len, vec_capacity}
use Rattle.error_models.proofs.text_blocks.keep_blocks.Given as goal

-- those that were kept are kept or still come, and there is room for them
abbrev pub invariant-loop-more : goal.invariant-loop-more
invariant-loop-more g l =
    record {
      those : vec_len l.fn.kept ≤ vec_len l.kept + vec_len l.more;
      room : vec_len l.fn.kept ≤ vec_capacity l.kept;
    }

abbrev pub decreases-loop-more : goal.decreases-loop-more
decreases-loop-more g l = vec_len l.more
