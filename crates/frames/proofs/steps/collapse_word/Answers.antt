-- The frames are turned, and then their flips are recorded.
use Rattle.std.proofs.Common.{ap, ◌∙◌, arith}
use Rattle.circuit_walk.specs.Letters.{letters_in}
use Rattle.step_model.specs.Frames.{Frame}
use Rattle.frames.specs.private.Followed.{terms_of}
use Rattle.frames.proofs.FollowedSteps.{product_followed, same-count, turned-records}
use Rattle.frames.proofs.steps.collapse_word.Goals as goal

pub record-requires : goal.record-requires
record-requires g c =
    let moved = c.collapse_product-flips.ensures.moved in
    omega (arith, same-count c.args.frames.now c.collapse_product-flips.new.frames (ap (λ (v : Frame). v.records) (moved.frames 0) ∙ turned-records _ _ _ _), moved.room, c.requires.room)

pub returns : goal.returns
returns g c inverted =
    product_followed c.args.program.now.listing c.args.faults.now (terms_of c.args.replaced) c.args.coins c.collapse_product-flips.result c.flips_of.result c.xor.result inverted c.args.flip
    c.args.frames.now c.collapse_product-flips.new.frames c.record.new.self c.requires.qubits c.flips_of.ensures c.xor.ensures c.args.rec c.record.ensures (letters_in c.args.letters)
    c.collapse_product-flips.ensures.moved c.collapse_product-flips.ensures.flips
