-- Each line is put before those of the detectors behind it.
use Rattle.std.proofs.Common.{◌≡◌, suc, ◌+◌, ◌-◌, ◌++◌, length, ap, ap₂, ◌∙◌, arith}
use Rattle.error_models.specs.ModelText.{detector_text}
use Rattle.backward.specs.private.HeldDetectors.{lines_text}
use Rattle.backward.proofs.HeldDetectorLemmas.{held_at}
use Rattle.backward.proofs.declarations.put_held.Goals as goal

pub loop-left-preserved : goal.loop-left-preserved
loop-left-preserved g c =
    let coordinates = c.args.program.now.listing.coordinates in
    let from = c.args.from in
    let left = c.loop-left.left in
    let size = length c.args.held.now in
    let some = c.loop-left-test.true in
    let after : from + left ≡ from + (left - 1) + 1 = omega (arith, some) in
    let count : suc (size - left) ≡ size - (left - 1) = omega (arith, some, c.loop-left.invariant.within) in
    let line = detector_text (from + (left - 1)) in
    let list = c.as_slice.ensures.value ∙ held_at coordinates from c.args.held.now (left - 1) c.index-held-left.result c.requires.held (omega (arith, some, c.loop-left.invariant.within)) c.index-held-left.is in
    let behind : c.loop-left.lines.text ≡ lines_text coordinates (from + (left - 1) + 1) (size - left) = c.loop-left.invariant.text ∙ ap (λ k. lines_text coordinates k (size - left)) after in
    let whole : c.put.new.self.text ≡ lines_text coordinates (from + (left - 1)) (suc (size - left)) = c.put.ensures.text ∙ ap₂ (λ cs l. line cs ++ l) list behind in
    record {
      within = omega (arith, c.loop-left.invariant.within);
      room = omega (arith, c.put.ensures.room, c.loop-left.invariant.room, some);
      text = whole ∙ ap (lines_text coordinates (from + (left - 1))) count;
    }
