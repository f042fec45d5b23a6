-- The runs' records and the reference run's say which targets differ.
use Rattle.std.proofs.Common.{ap, ap₂, ◌∙◌}
use Rattle.bit_rows.specs.Lanes.{lane}
use Rattle.step_model.specs.Targets.{difference}
use Rattle.frames.proofs.LaneFrameLaws.{written}
use Rattle.frames.proofs.target_words.WordsBeside.follow.Goals as goal

pub returns-clause-runs : goal.returns-clause-runs
returns-clause-runs g c j =
    ap (lane j) (written _ _ _ (c.detect.ensures.size ∙ c.deref_mut.ensures.len))
    ∙ c.detect.ensures.lanes j
    ∙ ap₂ (difference c.args.program.now.listing) (c.follow.ensures.runs j) (c.follow.ensures.reference ∙ c.requires.batch.reference.records)
