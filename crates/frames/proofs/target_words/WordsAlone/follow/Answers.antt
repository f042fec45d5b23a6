-- Where no target is random, the frames' flips say which targets differ.
use Rattle.std.proofs.Common.{ap, ◌∙◌}
use Rattle.bit_rows.specs.Lanes.{lane}
use Rattle.step_model.specs.Frames.{Frame}
use Rattle.step_model.specs.Targets.{parities}
use Rattle.frames.proofs.CarriedFrames.{flipped-targets}
use Rattle.frames.proofs.LaneFrameLaws.{written}
use Rattle.frames.proofs.target_words.WordsAlone.follow.Goals as goal

pub returns-clause-runs : goal.returns-clause-runs
returns-clause-runs g c coins j =
    let program = c.args.program.now.listing in
    ap (lane j) (written _ _ _ (c.detect.ensures.size ∙ c.deref_mut.ensures.len))
    ∙ c.detect.ensures.lanes j
    ∙ ap (parities program) (ap (λ (v : Frame). v.records) (c.carry_alone.ensures.carried j))
    ∙ flipped-targets program (lane j c.args.faults.now) c.well_formed-2.ensures coins c.requires.frames.none_random
