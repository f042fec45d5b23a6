-- The records that are added to an observable are the program's, and are counted too.
use Rattle.std.proofs.Common.{◌<◌, refl, subst, sym}
use Rattle.std.specs.Prelude.{All}
use Rattle.circuit_walk.specs.Declarations.{Inclusion}
use Rattle.circuit_walk.specs.NamedRecords.{records_in}
use Rattle.circuit_walk.proofs.DeclaredParts.{inclusion_fits}
use Rattle.record_targets.proofs.DeclarationLemmas.{counted_next}
use Rattle.record_targets.proofs.counting.CountingDeclarationTaker.inclusion.Goals as goal

pub count-requires : goal.count-requires
count-requires g c =
    let n = c.requires.next in
    subst (λ m. All (λ r. r < m) (records_in c.args.records)) (sym n.2.size)
    (inclusion_fits c.args.program.now.listing n.1 (records_in c.args.records) c.args._observable n.3 c.well_formed-2.ensures)

pub returns : goal.returns
returns g c begun done stands next =
    let records = records_in c.args.records in
    let old = c.args.self.now in
    let new = c.count.new.self in
    counted_next c.args.program.now.listing done (Inclusion c.args._observable records) records old.failed new.failed old.counts.items new.counts.items refl stands c.count.ensures.len c.count.ensures.counts
