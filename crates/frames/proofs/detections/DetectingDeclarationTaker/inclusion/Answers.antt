-- The observable is one of the program's, and its word is behind those of the detectors.
use Rattle.std.proofs.Common.{◌≡◌, [], ◌∷◌, ◌++◌, ◌+◌, ◌<◌, ℕ, length, ap, get_or, set, subst, sym, ◌∙◌, arith}
use Rattle.bit_rows.specs.Lanes.{lane_bit}
use Rattle.pauli_word.specs.Parity.{exclusive_or}
use Rattle.circuit_walk.specs.Declarations.{Inclusion}
use Rattle.circuit_walk.specs.NamedRecords.{records_in}
use Rattle.frames.specs.private.Detected.{AreDetected}
use Rattle.frames.proofs.Detected.{as_many, detected-inclusion, next_observable, next_observable_word}
use Rattle.frames.proofs.detections.DetectingDeclarationTaker.inclusion.Given.{Over}
use Rattle.frames.proofs.detections.DetectingDeclarationTaker.inclusion.Goals as goal
use Rattle.frames.proofs.detections.DetectingDeclarationTaker.inclusion.Goals.{After-well_formed-2}

there : (g : Over) (c : After-well_formed-2 g) → c.args.self.now.detectors + c.args.observable < length c.args.self.now.words.now
there g c =
    let n = c.requires.next in
    omega (arith, n.2.1, next_observable_word c.args.program.now.listing _ _ n.1 c.args.self.now.words.now (records_in c.args.records) n.2.3 c.args.observable n.3)

pub overflow_add-number : goal.overflow_add-number
overflow_add-number g c =
    let n = c.requires.next in
    let fits = c.well_formed-2.ensures in
    omega (arith, n.2.1, next_observable c.args.program.now.listing _ _ n.1 c.args.self.now.words.now (records_in c.args.records) n.2.3 c.args.observable n.3, fits.few_detectors, fits.few_observables)

pub offset_bounds-self-number : goal.offset_bounds-self-number
offset_bounds-self-number g c =
    let n = c.requires.next in
    let fits = c.well_formed-2.ensures in
    omega (arith, n.2.1, next_observable c.args.program.now.listing _ _ n.1 c.args.self.now.words.now (records_in c.args.records) n.2.3 c.args.observable n.3, fits.few_detectors, fits.few_observables)

pub bounds-self-number : goal.bounds-self-number
bounds-self-number g c = there g (goal.at.bounds-self-number g c).After-well_formed-2

pub offset_bounds-self-number-2 : goal.offset_bounds-self-number-2
offset_bounds-self-number-2 g c =
    let n = c.requires.next in
    let fits = c.well_formed-2.ensures in
    omega (arith, n.2.1, next_observable c.args.program.now.listing _ _ n.1 c.args.self.now.words.now (records_in c.args.records) n.2.3 c.args.observable n.3, fits.few_detectors, fits.few_observables)

pub bounds-self-number-2 : goal.bounds-self-number-2
bounds-self-number-2 g c = there g (goal.at.bounds-self-number-2 g c).After-well_formed-2

pub returns : goal.returns
returns g c begun done stands next =
    let program = c.args.program.now.listing in
    let records = records_in c.args.records in
    let words = c.args.self.now.words.now in
    let observable = c.args.observable in
    let flips = c.args.self.now.frames.now.flips in (
      stands.0,
      stands.1,
      stands.2 ∙ ap length (sym (as_many program _ _ done words records stands.3 observable next)),
      subst (λ n. AreDetected program begun.frames.now.flips (done ++ Inclusion observable records ∷ []) flips (set words (n + observable) c.xor.result)) (sym stands.1)
          (detected-inclusion program _ _ done words records stands.3 observable next c.parity.result c.xor.result c.parity.ensures
          (subst (λ n. (j : ℕ) → lane_bit j c.xor.result ≡ exclusive_or (lane_bit j (get_or words (n + observable) 0)) (lane_bit j c.parity.result)) stands.1 c.xor.ensures)),
    )
