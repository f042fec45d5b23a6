-- A detector is passed over.
use Rattle.circuit_walk.specs.NamedRecords.{records_in}
use Rattle.record_targets.proofs.PuttingLemmas.{no_inclusion}
use Rattle.record_targets.proofs.putting.PuttingInclusionsDeclarationTaker.detector.Goals as goal

pub returns : goal.returns
returns g c begun done stands next = (
  stands.0,
  no_inclusion c.args._program.now.listing done c.args.self.now.lists.marks.items c.args.self.now.lists.numbers.items stands.1 (records_in c.args._records),
)
