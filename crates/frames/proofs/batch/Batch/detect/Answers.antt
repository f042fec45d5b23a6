-- The flips' parities are what differs from the reference run.
use Rattle.std.proofs.Common.{◌≡◌, subst, ◌∙◌}
use Rattle.bit_rows.specs.Lanes.{lane}
use Rattle.step_model.specs.Targets.{difference}
use Rattle.frames.specs.Batches.{Followed, shot_records}
use Rattle.frames.proofs.TargetFlips.{detections}
use Rattle.frames.proofs.batch.Batch.detect.Goals as goal

pub returns-clause-lanes : goal.returns-clause-lanes
returns-clause-lanes g c j =
    let b = c.self.inside in
    let program = c.args.program.now.listing in
    subst (λ (seen : Followed). lane j c.detect.new.words ≡ difference program (shot_records j seen) seen.reference.records) c.self.view_is
    (c.detect.ensures.lanes j ∙ detections program (lane j b.frames.flips) b.reference.records)
