-- An inclusion is passed over.
use Rattle.std.proofs.Common.{length, ap, sym, ◌∙◌}
use Rattle.circuit_walk.specs.NamedRecords.{records_in}
use Rattle.record_targets.proofs.PuttingLemmas.{no_detector, same_detectors}
use Rattle.record_targets.proofs.putting.PuttingDetectorsDeclarationTaker.inclusion.Goals as goal

pub returns : goal.returns
returns g c begun done stands next =
    let records = records_in c.args._records in (
      stands.0 ∙ ap length (sym (same_detectors done c.args._observable records)),
      no_detector c.args._program.now.listing done c.args._observable records c.args.self.now.lists.marks.items c.args.self.now.lists.numbers.items stands.1,
    )
