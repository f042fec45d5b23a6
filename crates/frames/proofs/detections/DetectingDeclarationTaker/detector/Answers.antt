-- The next detector is the target of its number.
use Rattle.std.proofs.Common.{[], ◌∷◌, ◌++◌, ◌<◌, ◌+◌, length, ap, subst, sym, set, ◌∙◌, arith}
use Rattle.circuit_walk.specs.Declarations.{Detector}
use Rattle.circuit_walk.specs.NamedRecords.{records_in}
use Rattle.frames.specs.private.Detected.{AreDetected}
use Rattle.frames.proofs.Detected.{detected-detector, next_detector, next_detector_word, one_more}
use Rattle.frames.proofs.detections.DetectingDeclarationTaker.detector.Given.{Over}
use Rattle.frames.proofs.detections.DetectingDeclarationTaker.detector.Goals as goal
use Rattle.frames.proofs.detections.DetectingDeclarationTaker.detector.Goals.{After-parity}

there : (g : Over) (c : After-parity g) → c.args.self.now.next < length c.args.self.now.words.now
there g c =
    let n = c.requires.next in
    omega (arith, n.2.2, next_detector_word c.args.program.now.listing _ _ n.1 c.args.self.now.words.now (records_in c.args.records) n.2.3 n.3)

pub offset_bounds-self-self : goal.offset_bounds-self-self
offset_bounds-self-self g c = omega (arith, there g (goal.at.offset_bounds-self-self g c).After-parity)

pub bounds-self-self : goal.bounds-self-self
bounds-self-self g c = there g (goal.at.bounds-self-self g c).After-parity

pub overflow_add-self : goal.overflow_add-self
overflow_add-self g c =
    let n = c.requires.next in
    omega (arith, n.2.2, next_detector c.args.program.now.listing _ _ n.1 c.args.self.now.words.now (records_in c.args.records) n.2.3 n.3, c.well_formed-2.ensures.few_detectors)

pub returns : goal.returns
returns g c begun done stands next =
    let program = c.args.program.now.listing in
    let records = records_in c.args.records in
    let words = c.args.self.now.words.now in (
      stands.0,
      stands.1,
      ap (λ k. k + 1) stands.2 ∙ sym (one_more program _ _ done words records stands.3 next),
      subst (λ k. AreDetected program begun.frames.now.flips (done ++ Detector records ∷ []) c.args.self.now.frames.now.flips (set words k c.parity.result)) (sym stands.2)
          (detected-detector program _ _ done words records stands.3 next c.parity.result c.parity.ensures),
    )
