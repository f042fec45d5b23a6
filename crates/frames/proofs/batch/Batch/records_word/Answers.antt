use Rattle.std.proofs.Common.{◌≡◌, ap, false, get_or, subst, ◌∙◌}
use Rattle.bit_rows.specs.Lanes.{lane_bit}
use Rattle.frames.specs.Batches.{Followed, shot_records}
use Rattle.frames.proofs.LaneFrameLaws.{record-lane}
use Rattle.frames.proofs.batch.Batch.records_word.Goals as goal

pub returns : goal.returns
returns g c j below =
    let b = c.self.inside in
    subst (λ (seen : Followed). lane_bit j c.xor.result ≡ get_or (shot_records j seen) c.args.index false) c.self.view_is
    (record-lane j c.xor.result b.frames.flips b.reference.records c.args.index c.flips.result c.spread.result c.get-value.result
    (c.xor.ensures j) (c.flips.ensures j) (c.spread.ensures j below)
    (c.get-value.ensures ∙ ap (λ rs. get_or rs c.args.index false) c.records.ensures))
