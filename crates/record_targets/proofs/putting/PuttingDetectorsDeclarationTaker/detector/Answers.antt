-- The next detector is the target of its number.
use Rattle.std.proofs.Common.{◌<◌, ◌+◌, ℕ, [], length, ap, subst, sym, ◌∙◌, arith}
use Rattle.std.specs.Prelude.{All}
use Rattle.circuit_walk.specs.Declarations.{detectors_in}
use Rattle.circuit_walk.specs.NamedRecords.{records_in}
use Rattle.record_targets.specs.private.ListedTargets.{ArePutBut, left_from}
use Rattle.circuit_walk.proofs.DeclaredParts.{detector_fits, next_detector}
use Rattle.record_targets.proofs.ListedLemmas.{marks_counted}
use Rattle.record_targets.proofs.PuttingLemmas.{detector_count, detector_put, detector_room}
use Rattle.record_targets.proofs.putting.PuttingDetectorsDeclarationTaker.detector.Goals as goal

pub put-requires-clause-there : goal.put-requires-clause-there
put-requires-clause-there g c =
    let n = c.requires.next in
    let program = c.args.program.now.listing in
    let lists = c.args.self.now.lists in
    subst (λ m. All (λ r. r < m) (records_in c.args.records)) (sym (marks_counted program (length (detectors_in n.1)) lists.marks.items lists.numbers.items n.2.1))
    (detector_fits program n.1 (records_in c.args.records) n.3 c.well_formed-2.ensures)

pub put-requires-clause-room : goal.put-requires-clause-room
put-requires-clause-room g c =
    let n = c.requires.next in
    let program = c.args.program.now.listing in
    let lists = c.args.self.now.lists in (
      left_from program 0,
      left_from program (length (detectors_in n.1) + 1),
      detector_room program n.1 (records_in c.args.records) lists.marks.items lists.numbers.items n.3 n.2.1,
    )

pub overflow_add-self : goal.overflow_add-self
overflow_add-self g c =
    let n = c.requires.next in
    omega (arith, n.2.0, next_detector c.args.program.now.listing n.1 (records_in c.args.records) n.3, c.well_formed-2.ensures.few_detectors)

pub returns : goal.returns
returns g c begun done stands next =
    let program = c.args.program.now.listing in
    let records = records_in c.args.records in
    let lists = c.args.self.now.lists in
    let new = c.put.new.self in (
      ap (λ k. k + 1) stands.0 ∙ sym (detector_count program done records lists.marks.items lists.numbers.items next stands.1),
      detector_put program done records lists.marks.items lists.numbers.items next stands.1 new.marks.items new.numbers.items
          (subst (λ (t : ℕ). ArePutBut t records [] lists.marks.items lists.numbers.items new.marks.items new.numbers.items) stands.0 c.put.ensures),
    )
