-- The frames are turned and cleared, and then their flips are recorded.
use Rattle.std.proofs.Common.{ap, arith}
use Rattle.step_model.specs.Frames.{Frame}
use Rattle.frames.specs.private.Followed.{terms_of}
use Rattle.frames.proofs.FollowedSteps.{letter_followed, same-count}
use Rattle.frames.proofs.steps.collapse.Goals as goal

pub record-requires : goal.record-requires
record-requires g c =
    let moved = c.collapse_letter-flips.ensures.moved in
    omega (arith, same-count c.args.frames.now c.collapse_letter-flips.new.frames (ap (λ (v : Frame). v.records) (moved.frames 0)), moved.room, c.requires.room)

pub returns : goal.returns
returns g c inverted =
    letter_followed c.args.program.now.listing c.args.faults.now (terms_of c.args.replaced) c.args.coins c.collapse_letter-flips.result c.flips_of.result c.xor.result inverted c.args.flip
    c.args.frames.now c.collapse_letter-flips.new.frames c.record.new.self c.requires.qubits c.flips_of.ensures c.xor.ensures c.args.rec c.record.ensures c.args.reset c.args.letter c.args.qubit
    c.collapse_letter-flips.ensures.moved c.collapse_letter-flips.ensures.flips
