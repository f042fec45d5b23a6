-- All words are 0 at first, and behind all declarations each has its target's parities.
use Rattle.std.proofs.Common.{length, [], refl, sym, subst}
use Rattle.frames.specs.private.Detected.{AreDetected}
use Rattle.frames.proofs.Detected.{detected-start}
use Rattle.frames.proofs.detections.detect.Goals as goal

pub take_declarations-requires : goal.take_declarations-requires
take_declarations-requires g c =
    let program = c.args.program.now.listing in
    let flips = c.args.frames.now.flips in
    let n = length c.args.words.now in (
      refl,
      c.detector_count.ensures,
      refl,
      subst (AreDetected program flips [] flips) (sym (c.fill.ensures.after (λ y h. h))) (detected-start program flips flips refl n c.requires),
    )
