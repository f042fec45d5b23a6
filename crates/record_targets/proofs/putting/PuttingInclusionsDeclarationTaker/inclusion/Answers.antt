-- The observable is one of the program's, and is numbered behind the detectors.
use Rattle.std.proofs.Common.{◌<◌, ◌+◌, ap, subst, sym, arith}
use Rattle.std.specs.Prelude.{All}
use Rattle.circuit_walk.specs.NamedRecords.{records_in}
use Rattle.record_targets.specs.private.ListedTargets.{included_in, left_from}
use Rattle.circuit_walk.proofs.DeclaredParts.{inclusion_fits, next_observable}
use Rattle.record_targets.proofs.PuttingLemmas.{inclusion_put, inclusion_room}
use Rattle.record_targets.proofs.putting.PuttingInclusionsDeclarationTaker.inclusion.Goals as goal

pub overflow_add-self : goal.overflow_add-self
overflow_add-self g c =
    let n = c.requires.next in
    let fits = c.well_formed-2.ensures in
    omega (arith, n.2.0, next_observable c.args.program.now.listing n.1 (records_in c.args.records) c.args.observable n.3, fits.few_detectors, fits.few_observables)

pub overflow_cast-self : goal.overflow_cast-self
overflow_cast-self g c =
    let n = c.requires.next in
    let fits = c.well_formed-2.ensures in
    omega (arith, n.2.0, next_observable c.args.program.now.listing n.1 (records_in c.args.records) c.args.observable n.3, fits.few_detectors, fits.few_observables)

pub put-requires-clause-there : goal.put-requires-clause-there
put-requires-clause-there g c =
    let n = c.requires.next in
    subst (λ m. All (λ r. r < m) (records_in c.args.records)) (sym n.2.1.size)
    (inclusion_fits c.args.program.now.listing n.1 (records_in c.args.records) c.args.observable n.3 c.well_formed-2.ensures)

pub put-requires-clause-room : goal.put-requires-clause-room
put-requires-clause-room g c =
    let n = c.requires.next in
    let program = c.args.program.now.listing in
    let lists = c.args.self.now.lists in (
      left_from program 0,
      included_in n.3.rest,
      inclusion_room program n.1 lists.marks.items lists.numbers.items n.2.1 c.args.observable (records_in c.args.records) n.3,
    )

pub returns : goal.returns
returns g c begun done stands next =
    let program = c.args.program.now.listing in
    let lists = c.args.self.now.lists in
    let new = c.put.new.self in (
      stands.0,
      inclusion_put program done lists.marks.items lists.numbers.items stands.1 c.args.observable (records_in c.args.records) next _ new.marks.items new.numbers.items
          (ap (λ n. n + c.args.observable) stands.0)
          c.put.ensures,
    )
